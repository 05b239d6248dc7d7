use Rattle.std.proofs.Common.{length, ap, ◌∙◌, arith}
use Rattle.std.specs.List.{sum_by}
use Rattle.std.proofs.lemmas.List.{take_all}
use Rattle.plan_layout.proofs.ShapeLemmas.{listed_arc_to}
use Rattle.replan.specs.Standing.{arriving_by}
use Rattle.replan.proofs.Ways.{coming_is}
use Rattle.replan.proofs.comers.coming.Goals as goal

pub arriving_by-requires-clause-arc_in : goal.arriving_by-requires-clause-arc_in
arriving_by-requires-clause-arc_in g c =
    let same = c.loop-arc.invariant.arcs in
    let here = listed_arc_to c.args.layout.now c.args.node c.loop-arc.arc-index (omega (arith, ap length same, c.loop-arc-test.true)) in
    rw same here

pub returns-clause-coming : goal.returns-clause-coming
returns-clause-coming g c =
    let m = c.args.layout.now in
    let p = (g.F.Standing.stand c.args.standing.now).plan in
    let people = arriving_by m p c.args.from c.args.moment in
    let all = take_all c.loop-arc.arc-index c.arcs_to-arc-items.result.now c.loop-arc-test.false in
    c.loop-arc.invariant.sum ∙ ap (sum_by people) all ∙ ap (sum_by people) c.loop-arc.invariant.arcs
    ∙ coming_is m p c.args.from c.args.node c.args.moment c.requires.stands.plan.feasible.arcs
