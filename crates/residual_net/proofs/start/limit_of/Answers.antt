use Rattle.std.proofs.Common.{arith}
use Rattle.std.proofs.lemmas.List.{length-map}
use Rattle.evac_law.specs.Limits.{horizon_limit, travel_limit}
use Rattle.residual_net.proofs.Begin.{joined}
use Rattle.residual_net.proofs.start.limit_of.Goals as goal

pub overflow_add-moment : goal.overflow_add-moment
unfolding horizon_limit travel_limit
overflow_add-moment c = grind (arith, length-map, joined)
