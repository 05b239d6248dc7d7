use Rattle.std.proofs.Common.{arith}
use Rattle.time_expansion.proofs.Cells.{sizes}
use Rattle.residual_net.proofs.Walks.{start_open}
use Rattle.terminal_augment.proofs.flood.meet_after.Goals as goal

pub overflow_add-moment : goal.overflow_add-moment
overflow_add-moment c = grind (arith, sizes)

pub meet-requires-clause-inside : goal.meet-requires-clause-inside
meet-requires-clause-inside c = grind (arith, start_open)
