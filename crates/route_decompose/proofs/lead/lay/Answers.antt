use Rattle.std.proofs.Common.{◌∷◌, [], ◌∙◌, sym, length, ap, arith}
use Rattle.std.proofs.lemmas.List.{length-append}
use Rattle.evac_law.specs.Limits.{horizon_limit, travel_limit}
use Rattle.route_decompose.specs.Stocks.{TrailView}
use Rattle.route_decompose.proofs.Going.{arc_of, comes}
use Rattle.route_decompose.proofs.Laying.{way_ends, way_goes_on}
use Rattle.route_decompose.proofs.Leading.{step_of}
use Rattle.route_decompose.proofs.lead.lay.Goals as goal

pub overflow_add-now : goal.overflow_add-now
unfolding horizon_limit travel_limit
overflow_add-now c = grind (arith, arc_of)

pub loop-now-preserved : goal.loop-now-preserved
loop-now-preserved c =
    let s = c.args.store.now in
    let whole = c.requires.leadable.left in
    let h = c.loop-now.invariant in
    let until = c.stay-until.result.0 in
    let a = c.in-Some.arc in
    let some = c.in-Some.ensures.some in
    let arc = arc_of s whole a until some.0 some.2 in
    let added = ap (λ (x : TrailView). x.steps) c.add.ensures in
    let same_room = ap (λ (x : TrailView). x.room) c.add.ensures in
    record {
      node_in = omega (arith, c.head-here.ensures, arc.to_in);
      leadable = rw (c.head-here.ensures, c.travel.ensures) (comes s whole a until some.0 some.2);
      some = omega (arith, c.min-people.ensures, c.left.ensures, c.stay-until.ensures.somebody, some.2);
      few = omega (arith, c.min-people.ensures, c.stay-until.ensures.few, h.few);
      room = omega (
        arith,
        ap length added,
        length-append c.loop-now.trail.steps (step_of a until ∷ []),
        same_room,
        h.room,
        c.stay-until.ensures.later,
        c.travel.ensures,
        arc.travel_fits.0,
      );
      same_room = same_room ∙ h.same_room;
      way = rw (added, c.head-here.ensures, c.travel.ensures)
          (way_goes_on h.way (step_of a until) c.min-people.result c.stay-until.ensures some.0 some.1 (omega (arith, c.min-people.ensures, c.left.ensures)));
    }

pub returns-clause-laid : goal.returns-clause-laid
returns-clause-laid c = way_ends c.loop-now.invariant.way c.loop-now.invariant.some c.loop-now.invariant.few (sym c.is_exit.ensures ∙ c.loop-now-test.false)
