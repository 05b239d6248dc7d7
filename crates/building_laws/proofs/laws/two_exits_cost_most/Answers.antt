use Rattle.building_laws.proofs.Exits.{two_exits_cost_most}
use Rattle.building_laws.proofs.laws.two_exits_cost_most.Goals as goal

pub returns : goal.returns
returns c = two_exits_cost_most
