use Rattle.std.proofs.Common.{◌≡◌, ℕ, ◌<◌, length, slice_index, take}
use Rattle.plan_checker.specs.Counts.{arriving_at}
use Rattle.plan_checker.proofs.curve.count_arriving.Given as goal

abbrev pub invariant-loop-step : goal.invariant-loop-step
invariant-loop-step l = (t : ℕ) → t < length l.numbers → slice_index l.numbers t ≡ arriving_at l.model (take l.step-index l.moves) t
