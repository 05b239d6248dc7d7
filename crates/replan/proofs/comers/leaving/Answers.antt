use Rattle.std.proofs.Common.{◌<◌, ℕ, get_or, length, ap, ◌∙◌, arith}
use Rattle.std.specs.List.{sum_by}
use Rattle.std.proofs.lemmas.List.{take_all}
use Rattle.evac_law.specs.Plans.{moved}
use Rattle.plan_layout.proofs.ShapeLemmas.{listed_arc}
use Rattle.replan.proofs.Ways.{leaving_is}
use Rattle.replan.proofs.comers.leaving.Goals as goal

pub moved-requires-clause-arc_in : goal.moved-requires-clause-arc_in
moved-requires-clause-arc_in g c =
    let same = c.loop-arc.invariant.arcs in
    let here = (listed_arc c.args.layout.now c.args.node c.loop-arc.arc-index (omega (arith, ap length same, c.loop-arc-test.true))).0 in
    let listed : get_or c.arcs_from-arc-items.result.now c.loop-arc.arc-index 0 < length c.args.layout.now.arcs = rw same here in
    omega (arith, listed, c.requires.stands.fits.arcs_same)

pub returns-clause-leaving : goal.returns-clause-leaving
returns-clause-leaving g c =
    let m = c.args.layout.now in
    let p = (g.F.Standing.stand c.args.standing.now).plan in
    let people : ℕ → ℕ = λ a. moved p a c.args.moment in
    let all = take_all c.loop-arc.arc-index c.arcs_from-arc-items.result.now c.loop-arc-test.false in
    c.loop-arc.invariant.sum ∙ ap (sum_by people) all ∙ ap (sum_by people) c.loop-arc.invariant.arcs
    ∙ leaving_is m p c.args.node c.args.moment c.requires.stands.plan.feasible.arcs
