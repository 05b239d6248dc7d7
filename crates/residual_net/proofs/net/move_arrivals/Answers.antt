use Rattle.residual_net.proofs.Arrivals.{can_lower, can_raise, stored_pushed}
use Rattle.residual_net.proofs.LegLemmas.{between_places}
use Rattle.residual_net.proofs.net.move_arrivals.Goals as goal

pub head-to-requires : goal.head-to-requires
head-to-requires c = (between_places c.requires.underway).1

pub lower-requires : goal.lower-requires
lower-requires c = can_lower c.requires.some c.requires.underway c.start-from.ensures c.head-to.ensures

pub raise-requires : goal.raise-requires
raise-requires c = can_raise c.requires.some c.requires.underway c.start-from.ensures c.head-to.ensures c.lower.ensures

pub returns : goal.returns
returns c = stored_pushed c.requires.some c.requires.underway c.start-from.ensures c.head-to.ensures c.lower.ensures c.raise.ensures
