use Rattle.std.proofs.Common.{arith}
use Rattle.std.proofs.lemmas.Bool.{cases_lt}
use Rattle.std.proofs.lemmas.List.{get_or_default}
use Rattle.terminal_augment.proofs.hint.have_room.Goals as goal

pub loop-cell-preserved : goal.loop-cell-preserved
loop-cell-preserved c = grind (arith, cases_lt)

pub returns : goal.returns
returns c = grind (arith, get_or_default)
