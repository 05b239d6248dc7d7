use Rattle.std.proofs.Common.{arith}
use Rattle.residual_net.proofs.Walks.{supply_some}
use Rattle.residual_net.proofs.cancel.rest_into.Goals as goal

pub returns-else-get-gt0-clause-some : goal.returns-else-get-gt0-clause-some
returns-else-get-gt0-clause-some c = grind (arith, supply_some)

pub returns-else-moment-gt0-clause-some : goal.returns-else-moment-gt0-clause-some
returns-else-moment-gt0-clause-some c = grind (arith, supply_some)
