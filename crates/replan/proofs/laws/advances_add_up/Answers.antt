use Rattle.replan.proofs.Again.{carried_out_once}
use Rattle.replan.proofs.laws.advances_add_up.Goals as goal

pub returns : goal.returns
returns c m p r s t valid first ordered in_horizon all late = carried_out_once m p r s t valid first ordered in_horizon all late
