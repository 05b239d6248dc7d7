use Rattle.std.proofs.Common.{arith}
use Rattle.terminal_augment.proofs.FloodLemmas.{arc_inside}
use Rattle.terminal_augment.proofs.flood.meet_in.Goals as goal

pub meet-requires-clause-inside : goal.meet-requires-clause-inside
meet-requires-clause-inside c = grind (arith, arc_inside)
