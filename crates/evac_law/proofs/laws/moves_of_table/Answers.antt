use Rattle.evac_law.proofs.MoveLemmas.{moves_are_table}
use Rattle.evac_law.proofs.laws.moves_of_table.Goals as goal

pub returns : goal.returns
returns c = moves_are_table
