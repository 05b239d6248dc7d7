use Rattle.std.proofs.Common.{arith}
use Rattle.route_decompose.proofs.Handing.{empty_is_open}
use Rattle.route_decompose.proofs.routes.Routes.new.Goals as goal

pub invariant_of-result : goal.invariant_of-result
invariant_of-result c = grind (arith, empty_is_open)
