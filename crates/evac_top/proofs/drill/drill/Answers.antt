use Rattle.std.proofs.Common.{◌≡◌, arith, subst}
use Rattle.drill_building.specs.Drill.{drill_model}
use Rattle.edit_session.specs.Sessions.{BeginEnds}
use Rattle.evac_law.specs.declared.model.Model.{Model}
use Rattle.evac_law.specs.Building.{IsValid}
use Rattle.evac_top.specs.Drill.{IsDrilled}
use Rattle.evac_top.proofs.SolveLemmas.{drilled-few}
use Rattle.evac_top.proofs.TellLemmas.{drill-told, tells-nothing}
use Rattle.talk.specs.Statuses.{status_number}
use Rattle.evac_top.proofs.drill.drill.Goals as goal

pub returns-in_default : goal.returns-in_default
returns-in_default g c = λ source.
    let n = c.args.number in
    drill-told n 5 0 source _ _ c.args.steps.now c.args.steps.now (omega arith) (drilled-few n) (tells-nothing (IsDrilled n) 0 _)

pub tell-status-requires-clause-begun : goal.tell-status-requires-clause-begun
tell-status-requires-clause-begun g c =
    let made = c.in-Ok in
    let b = c.begin-begun.ensures in
    let same : made.building.model ≡ drill_model c.args.number = made.ensures.model in
    (b.0, subst IsValid same made.ensures.valid, subst (λ (m : Model). BeginEnds m c.begin-begun.result b.0) same b.2)

pub returns : goal.returns
returns g c = λ source.
    let n = c.args.number in
    let made = c.in-Ok in
    let b = c.begin-begun.ensures in
    let same : made.building.model ≡ drill_model n = made.ensures.model in
    let ends = subst (λ (m : Model). BeginEnds m c.begin-begun.result b.0) same b.2 in
    drill-told n (status_number c.tell-status.result) b.0 source _ _ c.args.steps.now c.begin-begun.new.steps b.1 (drilled-few n) (c.tell-status.ensures b.0 ends)
