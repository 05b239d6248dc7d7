use Rattle.std.proofs.Common.{arith}
use Rattle.plan_checker.proofs.CountLemmas.{arriving_room}
use Rattle.plan_checker.proofs.OrderedMoves.{no_move}
use Rattle.plan_checker.proofs.curve.count_arriving.Goals as goal

pub overflow_add-numbers : goal.overflow_add-numbers
overflow_add-numbers c = grind (arith, arriving_room, no_move)
