use Rattle.std.proofs.Common.{arith}
use Rattle.bottleneck_report.proofs.ItemLemmas.{numbers_are}
use Rattle.bottleneck_report.proofs.bottlenecks.write_arcs.Goals as goal

pub returns-clause-numbers : goal.returns-clause-numbers
returns-clause-numbers c = grind (arith, numbers_are)
