use Rattle.replan.proofs.RestIs.{left_over}
use Rattle.replan.proofs.laws.rest_is_clearable.Goals as goal

pub returns : goal.returns
returns c m p s valid first in_horizon all = left_over m p s valid first in_horizon all
