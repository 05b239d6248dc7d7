use Rattle.building_laws.proofs.Filled.{full_in_every_best_plan}
use Rattle.building_laws.proofs.laws.full_in_every_best_plan.Goals as goal

pub returns : goal.returns
returns c = full_in_every_best_plan
