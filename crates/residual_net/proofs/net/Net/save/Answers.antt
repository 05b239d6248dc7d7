use Rattle.std.proofs.Common.{arith}
use Rattle.residual_net.proofs.Kept.{kept_saved, refilled}
use Rattle.residual_net.proofs.net.Net.save.Goals as goal

pub invariant_of-self : goal.invariant_of-self
invariant_of-self c = grind (arith, refilled, kept_saved)
