use Rattle.std.proofs.Common.{arith}
use Rattle.evac_top.specs.Solve.{IsPlanned}
use Rattle.evac_top.proofs.SolveLemmas.{planned}
use Rattle.evac_top.proofs.TellLemmas.{tells-nothing, tells-sent}
use Rattle.talk.specs.Statuses.{status_number}
use Rattle.evac_top.proofs.solve.answer_plan.Goals as goal

pub returns-in_default : goal.returns-in_default
returns-in_default g c =
    let s = c.args.session.now.state in tells-nothing (IsPlanned c.args.query.now.flags c.args.query.now.names s.model) s.work.pushes _

pub returns : goal.returns
returns g c =
    let flags = c.args.query.now.flags in
    let names = c.args.query.now.names in
    let s = c.args.session.now.state in
    let sent = c.send_plan.ensures in
    tells-sent (IsPlanned flags names s.model) 0 s.work.pushes sent.0 c.send_plan.result _ _ (status_number c.status_after.result) c.status_after.ensures (omega arith)
    c.requires.fresh sent.2 (λ taken. planned flags names s.model s sent.0 taken c.requires.begins sent.1)
