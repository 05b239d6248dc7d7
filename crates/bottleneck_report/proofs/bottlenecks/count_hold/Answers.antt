use Rattle.std.proofs.Common.{arith, add-one}
use Rattle.evac_law.proofs.PartLemmas.{any-below}
use Rattle.bottleneck_report.proofs.ItemLemmas.{hold_counted, is_held_out}
use Rattle.bottleneck_report.proofs.bottlenecks.count_hold.Goals as goal

pub loop-moment-preserved : goal.loop-moment-preserved
loop-moment-preserved c = grind (arith, any-below, is_held_out, add-one)

pub returns-clause-count : goal.returns-clause-count
returns-clause-count c = grind (arith, hold_counted, is_held_out)
