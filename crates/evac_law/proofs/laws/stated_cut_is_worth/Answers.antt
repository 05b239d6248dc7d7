use Rattle.evac_law.proofs.Optimal.{stated_cut_is_worth}
use Rattle.evac_law.proofs.laws.stated_cut_is_worth.Goals as goal

pub returns : goal.returns
returns c = stated_cut_is_worth
