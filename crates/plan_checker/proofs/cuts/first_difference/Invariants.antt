use Rattle.std.proofs.Common.{◌≡◌, ℕ, ◌<◌, slice_index}
use Rattle.plan_checker.proofs.cuts.first_difference.Given as goal

abbrev pub invariant-loop-period : goal.invariant-loop-period
invariant-loop-period l = (j : ℕ) → j < l.period → slice_index l.curve j ≡ slice_index l.values j
