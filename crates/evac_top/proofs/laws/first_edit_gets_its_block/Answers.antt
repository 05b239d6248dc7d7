use Rattle.evac_top.proofs.FirstLineLemmas.{first_edit_gets_its_block}
use Rattle.evac_top.proofs.laws.first_edit_gets_its_block.Goals as goal

pub returns : goal.returns
returns c = first_edit_gets_its_block
