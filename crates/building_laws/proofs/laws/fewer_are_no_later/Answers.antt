use Rattle.building_laws.proofs.People.{fewer_are_no_later}
use Rattle.building_laws.proofs.laws.fewer_are_no_later.Goals as goal

pub returns : goal.returns
returns c = fewer_are_no_later
