use Rattle.building_laws.proofs.Duality.{most_is_reached}
use Rattle.building_laws.proofs.laws.most_is_reached.Goals as goal

pub returns : goal.returns
returns c = most_is_reached
