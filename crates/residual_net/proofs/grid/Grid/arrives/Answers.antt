use Rattle.std.proofs.Common.{arith}
use Rattle.evac_law.specs.Limits.{travel_limit}
use Rattle.time_expansion.proofs.Cells.{sizes}
use Rattle.residual_net.proofs.grid.Grid.arrives.Goals as goal

pub overflow_add-result : goal.overflow_add-result
unfolding travel_limit
overflow_add-result c = grind (arith, sizes)
