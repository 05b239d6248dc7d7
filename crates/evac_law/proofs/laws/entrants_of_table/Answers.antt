use Rattle.evac_law.proofs.EntrantTable.{entrants_are_table}
use Rattle.evac_law.proofs.laws.entrants_of_table.Goals as goal

pub returns : goal.returns
returns c = entrants_are_table
