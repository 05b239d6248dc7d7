use Rattle.std.proofs.Common.{◌≡◌, arith}
use Rattle.drill_building.specs.Summary.{drill_text}
use Rattle.evac_top.specs.Drill.{IsDrilled}
use Rattle.evac_top.proofs.SolveLemmas.{lent-drilled}
use Rattle.evac_top.proofs.TellLemmas.{tells-nothing, tells-sent}
use Rattle.talk.specs.Statuses.{status_number}
use Rattle.evac_top.proofs.drill.answer_drill.Goals as goal

pub returns-in_default : goal.returns-in_default
returns-in_default g c = tells-nothing (IsDrilled c.args.number) c.args.session.now.state.work.pushes _

pub returns : goal.returns
returns g c =
    let number = c.args.number in
    let s = c.args.session.now.state in
    let f = c.in-Ok.figures in
    let known = c.in-Ok.ensures in
    let lent : c.model-model.result.now ≡ s.model = c.model-model.ensures.model in
    let text = drill_text number c.model-model.result.now f in
    tells-sent (IsDrilled number) 0 s.work.pushes text c.send_drill.result _ _ (status_number c.status_after.result) c.status_after.ensures (omega arith)
    c.requires.fresh c.send_drill.ensures
    (λ taken. lent-drilled number s f c.model-model.result.now taken lent c.requires.begins known.0 known.1)
