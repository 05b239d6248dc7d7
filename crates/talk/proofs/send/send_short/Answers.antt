use Rattle.std.proofs.Common.{refl, rules, sym}
use Rattle.talk.proofs.Sending.{sent}
use Rattle.talk.proofs.send.send_short.Goals as goal

pub returns : goal.returns
returns g c =
    sent c.flush.result c.new-writer.result c.put_short.new.writer c.flush.new.self _ c.new-writer.ensures.failed (search rules) (search rules) (search rules) (search rules)
    (c.put_short.ensures.text c.args.short.now.model (record { names = refl; horizon = refl }) (sym c.people-people.ensures)) c.flush.ensures.text c.flush.ensures.ok c.flush.ensures.sent c.flush.ensures.err
