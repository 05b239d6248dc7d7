use Rattle.std.proofs.Common.{arith}
use Rattle.std.proofs.Math.ListN.{set}
use Rattle.bottleneck_report.proofs.CoverLemmas.{covers_more}
use Rattle.bottleneck_report.proofs.cover.add.Goals as goal

pub returns-then-place-ends-clause-covered : goal.returns-then-place-ends-clause-covered
returns-then-place-ends-clause-covered c k l = grind (arith, set, covers_more)
