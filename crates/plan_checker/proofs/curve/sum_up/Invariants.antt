use Rattle.std.proofs.Common.{◌≡◌, ℕ, ◌<◌, ◌≤◌, slice_index, sum_by}
use Rattle.evac_law.specs.Sums.{below, moments_to}
use Rattle.plan_checker.proofs.curve.sum_up.Given as goal

abbrev pub invariant-loop-number : goal.invariant-loop-number
invariant-loop-number l = record {
  total : l.total ≡ sum_by (slice_index l.fn.numbers) (below l.number-index);
  summed : (t : ℕ) → t < l.number-index → slice_index l.numbers t ≡ sum_by (slice_index l.fn.numbers) (moments_to t);
  ahead : (t : ℕ) → l.number-index ≤ t → slice_index l.numbers t ≡ slice_index l.fn.numbers t;
}
