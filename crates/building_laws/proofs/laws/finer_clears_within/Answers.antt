use Rattle.building_laws.proofs.Finer.{finer_clears_within}
use Rattle.building_laws.proofs.laws.finer_clears_within.Goals as goal

pub returns : goal.returns
returns c = finer_clears_within
