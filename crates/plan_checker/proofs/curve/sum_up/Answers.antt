use Rattle.std.proofs.Common.{◌<◌, length, slice_index, arith, get_or-set_other, get_or-set_same}
use Rattle.evac_law.proofs.SumLemmas.{sum_below-more}
use Rattle.plan_checker.proofs.curve.sum_up.Goals as goal

pub overflow_add-total : goal.overflow_add-total
overflow_add-total c =
    let i = c.loop-number.number-index in
    let l : i < length c.args.numbers.now = omega (arith, c.loop-number-test.true, c.loop-number.auto.numbers) in
    omega (
      arith,
      c.requires i l,
      sum_below-more (slice_index c.args.numbers.now) i,
      c.loop-number.invariant.total,
      c.loop-number.invariant.ahead i (omega arith),
    )

pub loop-number-preserved : goal.loop-number-preserved
loop-number-preserved c = grind (arith, sum_below-more, get_or-set_other, get_or-set_same)
