use Rattle.building_laws.proofs.Looser.{loosening_keeps_plans}
use Rattle.building_laws.proofs.laws.loosening_keeps_plans.Goals as goal

pub returns : goal.returns
returns c = loosening_keeps_plans
