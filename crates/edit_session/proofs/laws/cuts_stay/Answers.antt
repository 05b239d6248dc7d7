use Rattle.edit_session.proofs.RepairLemmas.{cuts-stay}
use Rattle.edit_session.proofs.laws.cuts_stay.Goals as goal

pub returns : goal.returns
returns c = cuts-stay
