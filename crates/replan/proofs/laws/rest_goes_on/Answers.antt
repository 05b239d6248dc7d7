use Rattle.replan.proofs.Parted.{all_late}
use Rattle.replan.proofs.RestIs.{goes_on}
use Rattle.replan.proofs.laws.rest_goes_on.Goals as goal

pub returns : goal.returns
returns c m p r s valid first in_horizon all late = goes_on m p s valid first in_horizon all r (all_late s r late)
