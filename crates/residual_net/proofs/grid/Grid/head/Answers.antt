use Rattle.std.proofs.Common.{arith}
use Rattle.time_expansion.proofs.Cells.{sizes}
use Rattle.residual_net.proofs.grid.Grid.head.Goals as goal

pub overflow_add-moment : goal.overflow_add-moment
overflow_add-moment c = grind (arith, sizes)
