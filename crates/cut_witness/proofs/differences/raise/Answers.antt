use Rattle.std.proofs.Common.{arith}
use Rattle.cut_witness.proofs.Nets.{raised}
use Rattle.cut_witness.proofs.differences.raise.Goals as goal

pub returns-then-place-list-clause-sums : goal.returns-then-place-list-clause-sums
returns-then-place-list-clause-sums c k l = grind (arith, raised)
