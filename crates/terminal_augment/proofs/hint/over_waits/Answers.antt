use Rattle.std.proofs.Common.{arith}
use Rattle.residual_net.proofs.LegLemmas.{waits_none}
use Rattle.terminal_augment.proofs.hint.over_waits.Goals as goal

pub returns-then-from-since : goal.returns-then-from-since
returns-then-from-since c = grind (arith, waits_none)

pub returns : goal.returns
returns c = grind arith
