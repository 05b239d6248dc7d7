use Rattle.drill_building.proofs.WaysOut.{drill-clearable}
use Rattle.drill_building.proofs.laws.drills_are_clearable.Goals as goal

pub returns : goal.returns
returns c = drill-clearable
