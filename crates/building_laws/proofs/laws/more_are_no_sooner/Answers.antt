use Rattle.building_laws.proofs.People.{more_are_no_sooner}
use Rattle.building_laws.proofs.laws.more_are_no_sooner.Goals as goal

pub returns : goal.returns
returns c = more_are_no_sooner
