use Rattle.talk.proofs.hold.refuse.Goals as goal

pub returns : goal.returns
returns g c = record { sent = c.send_refusal.result; over = c.status_after.ensures; sends = c.send_refusal.ensures }
