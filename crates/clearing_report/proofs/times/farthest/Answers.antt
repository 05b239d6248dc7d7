use Rattle.std.proofs.Common.{arith}
use Rattle.clearing_report.proofs.TimeLemmas.{farthest_is, farthest_takes, no_walk, not_some}
use Rattle.clearing_report.proofs.times.farthest.Goals as goal

pub returns-in_default : goal.returns-in_default
returns-in_default c = grind (arith, no_walk, not_some)

pub loop-node-preserved : goal.loop-node-preserved
loop-node-preserved c = grind (arith, farthest_takes)

pub returns : goal.returns
returns c = grind (arith, farthest_is)
