use Rattle.evac_top.proofs.FirstLineLemmas.{first_advance_is_carried_out}
use Rattle.evac_top.proofs.laws.first_advance_is_carried_out.Goals as goal

pub returns : goal.returns
returns c = first_advance_is_carried_out
