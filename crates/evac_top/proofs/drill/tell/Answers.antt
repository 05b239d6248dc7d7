use Rattle.drill_building.specs.Drill.{drill_model}
use Rattle.drill_building.proofs.WaysOut.{drill-clearable}
use Rattle.evac_top.specs.Drill.{IsDrilled}
use Rattle.evac_top.proofs.SolveLemmas.{begun-as, fault-as, told-drilled, told-short}
use Rattle.talk.specs.Statuses.{status_number}
use Rattle.evac_top.proofs.drill.tell.Goals as goal

pub answer_drill-requires-clause-begins : goal.answer_drill-requires-clause-begins
answer_drill-requires-clause-begins g c =
    let h = c.requires.begun in (begun-as (drill_model c.args.number) h.0 c.args.begun c.in-Ok.session c.in-Ok.is h.2).0

pub stop_short-requires-clause-begun : goal.stop_short-requires-clause-begun
stop_short-requires-clause-begun g c =
    let m = drill_model c.args.number in
    let h = c.requires.begun in (m, (h.0, h.1, fault-as m h.0 c.args.begun c.in-Err.fault c.in-Err.is h.2))

pub returns-in-Ok : goal.returns-in-Ok
returns-in-Ok g c = λ steps ends.
    let v = c.in-Ok.session in
    let h = begun-as (drill_model c.args.number) steps c.args.begun v c.in-Ok.is ends in
    told-drilled c.args.number v.state steps (status_number c.answer_drill.result) _ _ h.2 c.answer_drill.ensures

pub returns-in-Err : goal.returns-in-Err
returns-in-Err g c = λ steps ends.
    let m = drill_model c.args.number in
    told-short (IsDrilled c.args.number) m 0 steps (status_number c.stop_short.result) _ _
    (λ x h. absurd (h.barred_by.not_clearable (drill-clearable c.args.number c.requires.storeys)))
    (c.stop_short.ensures m steps (fault-as m steps c.args.begun c.in-Err.fault c.in-Err.is ends))
