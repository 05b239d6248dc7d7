use Rattle.std.proofs.Common.{◌≡◌, ◌++◌}
use Rattle.residual_net.specs.Start.{rows_cells}
use Rattle.residual_net.proofs.start.add_rows.Given as goal

abbrev pub invariant-loop-number : goal.invariant-loop-number
invariant-loop-number l = l.cells.items ≡ l.fn.cells.items ++ rows_cells l.model l.kind l.number
