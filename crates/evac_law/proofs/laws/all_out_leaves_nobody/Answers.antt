use Rattle.evac_law.proofs.Conserved.{all_out_leaves_nobody}
use Rattle.evac_law.proofs.laws.all_out_leaves_nobody.Goals as goal

pub returns : goal.returns
returns c = all_out_leaves_nobody
