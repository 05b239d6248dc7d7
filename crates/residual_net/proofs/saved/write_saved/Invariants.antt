use Rattle.std.proofs.Common.{◌≡◌, take}
use Rattle.std.specs.Prelude.{vec_capacity, vec_len}
use Rattle.residual_net.specs.Start.{emptied}
use Rattle.residual_net.proofs.saved.write_saved.Given as goal

abbrev pub invariant-loop-cell : goal.invariant-loop-cell
invariant-loop-cell l = record {
  items : l.saved.items ≡ emptied (take l.cell-index l.cells);
  count : vec_len l.saved ≡ l.cell-index;
  capacity : vec_capacity l.saved ≡ vec_capacity l.fn.saved;
}
