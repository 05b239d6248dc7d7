use Rattle.std.proofs.Common.{arith}
use Rattle.evac_law.specs.Limits.{horizon_limit}
use Rattle.residual_net.proofs.Begin.{row_more}
use Rattle.residual_net.proofs.start.add_moments.Goals as goal

pub overflow_add-moment-end : goal.overflow_add-moment-end
unfolding horizon_limit
overflow_add-moment-end c = omega (arith, c.requires.valid.horizon)

pub loop-moment-preserved : goal.loop-moment-preserved
loop-moment-preserved c = grind (arith, row_more)
