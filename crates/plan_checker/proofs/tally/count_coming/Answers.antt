use Rattle.std.proofs.Common.{arith}
use Rattle.evac_law.proofs.ValidLemmas.{head_in}
use Rattle.plan_checker.proofs.CountLemmas.{coming_room}
use Rattle.plan_checker.proofs.OrderedMoves.{no_move}
use Rattle.plan_checker.proofs.tally.count_coming.Goals as goal

pub add-requires-clause-room : goal.add-requires-clause-room
add-requires-clause-room c inside = grind (arith, no_move, head_in, coming_room)
