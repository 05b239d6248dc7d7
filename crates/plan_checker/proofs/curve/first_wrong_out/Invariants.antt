use Rattle.std.proofs.Common.{◌≡◌, ℕ, ◌<◌, slice_index}
use Rattle.plan_checker.proofs.curve.first_wrong_out.Given as goal

abbrev pub invariant-loop-period : goal.invariant-loop-period
invariant-loop-period l = (j : ℕ) → j < l.period → slice_index l.outs j ≡ slice_index l.curve j
