use Rattle.std.proofs.Common.{arith}
use Rattle.evac_law.proofs.ValidLemmas.{tail_in}
use Rattle.plan_checker.proofs.CountLemmas.{leaving_room}
use Rattle.plan_checker.proofs.OrderedMoves.{no_move}
use Rattle.plan_checker.proofs.tally.count_leaving.Goals as goal

pub add-requires-clause-room : goal.add-requires-clause-room
add-requires-clause-room c inside = grind (arith, no_move, tail_in, leaving_room)
