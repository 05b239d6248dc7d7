use Rattle.std.proofs.Common.{arith}
use Rattle.evac_law.specs.Cuts.{cut_value}
use Rattle.evac_law.proofs.WeakDuality.{out_le_value}
use Rattle.cut_witness.proofs.one_cut.cut_value.Goals as goal

pub loop-item-init : goal.loop-item-init
unfolding cut_value
loop-item-init c = grind arith

pub returns-clause-bound : goal.returns-clause-bound
returns-clause-bound c q feasible = grind (arith, out_le_value)
