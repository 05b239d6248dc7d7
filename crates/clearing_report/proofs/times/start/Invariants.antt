use Rattle.std.proofs.Common.{◌≡◌, ℕ, ◌<◌}
use Rattle.evac_law.specs.Building.{is_exit_at}
use Rattle.clearing_report.specs.Distances.{time_at}
use Rattle.clearing_report.proofs.TimeLemmas.{first_time}
use Rattle.clearing_report.proofs.times.start.Given as goal

abbrev pub invariant-loop-node : goal.invariant-loop-node
invariant-loop-node l = (n : ℕ) → n < l.node → time_at l.times n ≡ first_time (is_exit_at l.model n)
