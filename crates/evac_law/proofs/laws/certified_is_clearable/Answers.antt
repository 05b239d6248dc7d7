use Rattle.evac_law.proofs.Optimal.{certified_is_clearable}
use Rattle.evac_law.proofs.laws.certified_is_clearable.Goals as goal

pub returns : goal.returns
returns c = certified_is_clearable
