use Rattle.building_laws.proofs.Rounded.{rounded_clear_within}
use Rattle.building_laws.proofs.laws.rounded_clear_within.Goals as goal

pub returns : goal.returns
returns c = rounded_clear_within
