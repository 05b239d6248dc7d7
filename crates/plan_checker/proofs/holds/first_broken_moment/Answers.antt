use Rattle.std.proofs.Common.{◌+◌, arith}
use Rattle.evac_law.specs.Building.{entry}
use Rattle.evac_law.proofs.SumLemmas.{sum_below-more}
use Rattle.plan_checker.specs.Counts.{count}
use Rattle.plan_checker.proofs.holds.first_broken_moment.Goals as goal

pub overflow_add-arrived : goal.overflow_add-arrived
overflow_add-arrived c =
    let t = c.loop-moment.moment in
    omega (
      arith,
      (c.requires.few t c.loop-moment-test.true).0,
      sum_below-more (λ s. entry c.args.model.now c.args.node s + count c.args.came.now c.args.node s) t,
      c.from.ensures,
      c.entry.ensures,
      c.get.ensures 0,
    )

pub overflow_add-arrived-in-loop-moment : goal.overflow_add-arrived-in-loop-moment
overflow_add-arrived-in-loop-moment c =
    let t = c.loop-moment.moment in
    omega (
      arith,
      (c.requires.few t c.loop-moment-test.true).0,
      sum_below-more (λ s. entry c.args.model.now c.args.node s + count c.args.came.now c.args.node s) t,
      c.loop-moment.invariant.arrived,
      c.from.ensures,
      c.entry.ensures,
      c.get.ensures 0,
    )

pub overflow_add-gone : goal.overflow_add-gone
overflow_add-gone c =
    let t = c.loop-moment.moment in
    omega (
      arith,
      (c.requires.few t c.loop-moment-test.true).1,
      sum_below-more (count c.args.left.now c.args.node) t,
      c.loop-moment.invariant.gone,
      c.get-gone.ensures 0,
    )

pub overflow_add-gone-else-arrived-gone : goal.overflow_add-gone-else-arrived-gone
overflow_add-gone-else-arrived-gone c =
    let t = c.loop-moment.moment in
    omega (
      arith,
      (c.requires.few t c.loop-moment-test.true).1,
      sum_below-more (count c.args.left.now c.args.node) t,
      c.loop-moment.invariant.gone,
      c.get-gone.ensures 0,
      c.from-capacity.ensures,
      c.node.type_inv,
    )
