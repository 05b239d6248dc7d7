use Rattle.std.proofs.Common.{arith}
use Rattle.terminal_augment.proofs.HintLemmas.{marked_more, marked_on}
use Rattle.terminal_augment.proofs.hint.mark_all.Goals as goal

pub loop-moment-init : goal.loop-moment-init
loop-moment-init c = grind arith

pub loop-moment-preserved : goal.loop-moment-preserved
loop-moment-preserved c = grind (arith, marked_more, marked_on)

pub returns-clause-over : goal.returns-clause-over
returns-clause-over c q = grind arith
