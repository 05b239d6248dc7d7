use Rattle.std.proofs.Common.{ℕ, List, length, ap, arith, take}
use Rattle.std.specs.List.{sum_by}
use Rattle.std.proofs.lemmas.List.{take_all}
use Rattle.evac_law.specs.Plans.{moved}
use Rattle.plan_layout.proofs.ShapeLemmas.{listed_arc}
use Rattle.cards.proofs.Listed.{leaving_listed, listed_leavers}
use Rattle.cards.proofs.Numbers.{left_is}
use Rattle.cards.proofs.follow.leaver_of.Goals as goal

pub moved-requires-clause-arc_in : goal.moved-requires-clause-arc_in
moved-requires-clause-arc_in c = grind (arith, listed_arc)

pub returns-then-behind-people : goal.returns-then-behind-people
returns-then-behind-people c =
    let p = c.args.counts.now.plan in
    let n = c.args.comer.node in
    let t = c.leaves_at-moment.result in
    let k = c.loop-arc.arc-index in
    let same = c.loop-arc.invariant.arcs in
    let arc = listed_arc p.model n k (omega (arith, ap length same, c.loop-arc-test.true)) in
    let first = listed_leavers p.model p.moves n t k (omega (arith, ap length same, c.loop-arc-test.true)) in
    let front = ap (λ (xs : List ℕ). sum_by (λ a. moved p.moves a t) (take k xs)) same in
    record {
      arc_in = rw same arc.0;
      from = rw same arc.1;
      number = rw same (omega (arith, first, c.loop-arc.invariant.number, front));
      among = omega (arith, c.if-behind-people.true, c.from-people.ensures, c.moved.ensures);
    }

pub unreachable-requires : goal.unreachable-requires
unreachable-requires c = grind (arith, take_all, leaving_listed, left_is)
