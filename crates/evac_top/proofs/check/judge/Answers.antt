use Rattle.std.proofs.Common.{◌≡◌, ◌∙◌, ap}
use Rattle.evac_top.specs.Check.{IsChecked, verdict_status, verdict_text}
use Rattle.talk.specs.Held.{status_after}
use Rattle.evac_top.proofs.ClaimLemmas.{checked, status-small}
use Rattle.evac_top.proofs.TellLemmas.{tells-nothing, tells-sent}
use Rattle.talk.specs.Statuses.{status_number}
use Rattle.evac_top.proofs.check.judge.Goals as goal

pub returns-in_default : goal.returns-in_default
returns-in_default g c = tells-nothing (IsChecked c.args.model.now c.args.block.now) 0 _

pub returns : goal.returns
returns g c =
    let m = c.args.model.now in
    let b = c.args.block.now in
    let v = c.in-Ok.verdict in
    let ended : status_number c.status_after.result ≡ status_after c.send_verdict.result (verdict_status v) =
    c.status_after.ensures ∙ ap (status_after c.send_verdict.result) c.status_of.ensures in
    tells-sent (IsChecked m b) (verdict_status v) 0 (verdict_text m v) c.send_verdict.result _ _ (status_number c.status_after.result) ended (status-small v)
    c.requires.fresh c.send_verdict.ensures (λ taken. checked m b v taken c.requires.valid c.requires.block c.in-Ok.ensures.verdict)
