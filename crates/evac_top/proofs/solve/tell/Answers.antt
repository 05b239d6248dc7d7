use Rattle.std.proofs.Common.{inr}
use Rattle.evac_top.specs.Solve.{IsPlannedOrShort}
use Rattle.evac_top.proofs.SolveLemmas.{begins-own, begun-as, fault-as, told-planned, told-short}
use Rattle.talk.specs.Statuses.{status_number}
use Rattle.evac_top.proofs.solve.tell.Goals as goal

pub answer_plan-requires-clause-begins : goal.answer_plan-requires-clause-begins
answer_plan-requires-clause-begins g c =
    let h = c.requires.begun in
    let v = c.in-Ok.session in
    begins-own h.0 v.state (begun-as h.0 h.1.0 c.args.begun v c.in-Ok.is h.1.2).0

pub stop_short-requires-clause-begun : goal.stop_short-requires-clause-begun
stop_short-requires-clause-begun g c =
    let h = c.requires.begun in (h.0, (h.1.0, h.1.1, fault-as h.0 h.1.0 c.args.begun c.in-Err.fault c.in-Err.is h.1.2))

pub returns-in-Ok : goal.returns-in-Ok
returns-in-Ok g c = λ m steps ends.
    let v = c.in-Ok.session in
    let h = begun-as m steps c.args.begun v c.in-Ok.is ends in
    told-planned c.args.query.now.flags c.args.query.now.names m c.args.query.now.line v.state steps (status_number c.answer_plan.result) _ _ h.0 h.2 c.answer_plan.ensures

pub returns-in-Err : goal.returns-in-Err
returns-in-Err g c = λ m steps ends.
    let query = c.args.query.now in
    let line = query.line in
    told-short (IsPlannedOrShort query.flags query.names m line) m line steps (status_number c.stop_short.result) _ _ (λ x h. inr h)
    (c.stop_short.ensures m steps (fault-as m steps c.args.begun c.in-Err.fault c.in-Err.is ends))
