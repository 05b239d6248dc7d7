use Rattle.evac_law.proofs.Thinned.{all_out_is_clearable}
use Rattle.evac_law.proofs.laws.all_out_is_clearable.Goals as goal

pub returns : goal.returns
returns c = all_out_is_clearable
