use Rattle.std.proofs.Common.{◌≤◌, ◌-◌, ◌<◌, ℕ, get_or}
use Rattle.residual_net.specs.Network.{no_cell}
use Rattle.terminal_augment.proofs.hint.least_room.Given as goal

abbrev pub invariant-loop-cell : goal.invariant-loop-cell
invariant-loop-cell l = record {
  most : l.least ≤ l.most;
  room : (i : ℕ) → i < l.cell-index → l.least ≤ (get_or l.cells i no_cell).limit - (get_or l.cells i no_cell).flow;
}
