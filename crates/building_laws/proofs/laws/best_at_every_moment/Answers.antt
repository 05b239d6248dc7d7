use Rattle.building_laws.proofs.Duality.{best_at_every_moment}
use Rattle.building_laws.proofs.laws.best_at_every_moment.Goals as goal

pub returns : goal.returns
returns c = best_at_every_moment
