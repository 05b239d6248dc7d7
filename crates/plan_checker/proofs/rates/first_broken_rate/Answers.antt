use Rattle.std.proofs.Common.{arith}
use Rattle.plan_checker.proofs.OrderedMoves.{kept_at, kept_before, moved_at, no_move}
use Rattle.plan_checker.proofs.rates.first_broken_rate.Goals as goal
use Rattle.plan_checker.proofs.rates.first_broken_rate.Goals.{else-step-last-via-then-step-last+else-step-rate, else-step-last-via-else-step-last}

pub returns-then-step-rate : goal.returns-then-step-rate
returns-then-step-rate c = grind (arith, no_move, moved_at, kept_before)

pub loop-step-preserved : goal.loop-step-preserved
loop-step-preserved c = grind (arith, else-step-last-via-then-step-last+else-step-rate, else-step-last-via-else-step-last)

pub returns : goal.returns
returns c a t l k =
    kept_at c.args.model.now c.args.moves.now a t no_move c.requires.ordered.sorted
    (λ j h e f. c.loop-step.invariant j (omega (arith, h, c.loop-step-test.false)) (omega (arith, f, k)))
