use Rattle.replan.proofs.RestIs.{best_from}
use Rattle.replan.proofs.laws.certified_rest_is_best.Goals as goal

pub returns : goal.returns
returns c m p r s l i valid first in_horizon all good = best_from m p s valid first in_horizon all r l i good
