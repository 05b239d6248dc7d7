use Rattle.std.proofs.Common.{◌-◌, ◌≤◌, ◌<◌, ℕ, IsFalse, get_or}
use Rattle.residual_net.specs.Network.{no_cell}
use Rattle.terminal_augment.proofs.hint.have_room.Given as goal

abbrev pub invariant-loop-cell : goal.invariant-loop-cell
invariant-loop-cell l = IsFalse l.full → (i : ℕ) → i < l.cell-index → l.people ≤ (get_or l.cells i no_cell).limit - (get_or l.cells i no_cell).flow
