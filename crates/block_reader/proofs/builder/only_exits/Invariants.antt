-- The places so far are those of exits.
use Rattle.std.proofs.Common.{◌≡◌, ℕ, ◌<◌, ◌≤◌, true}
use Rattle.evac_law.specs.Building.{is_exit_at}
use Rattle.block_reader.proofs.builder.only_exits.Given as goal

abbrev pub invariant-loop-node : goal.invariant-loop-node
invariant-loop-node l = (k : ℕ) → k < l.node → l.from ≤ k → is_exit_at l.model k ≡ true
