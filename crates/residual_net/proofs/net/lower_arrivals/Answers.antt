use Rattle.std.proofs.Common.{false}
use Rattle.residual_net.specs.declared.place.PathStep.{PathStep}
use Rattle.residual_net.specs.declared.place.Place.TheVariants.{Arc}
use Rattle.residual_net.proofs.Taking.{can_lower, stored_taken}
use Rattle.residual_net.proofs.net.lower_arrivals.Goals as goal

abbrev blank : PathStep
blank = record { place = Arc 0 0; back = false }

pub lower-requires : goal.lower-requires
lower-requires c = can_lower blank c.requires c.head-from.ensures

pub returns : goal.returns
returns c = stored_taken blank c.requires c.head-from.ensures c.lower.ensures
