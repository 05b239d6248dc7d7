use Rattle.evac_law.proofs.Optimal.{certified_is_quickest}
use Rattle.edit_session.proofs.laws.state_is_quickest.Goals as goal

pub returns : goal.returns
returns c = λ s q h feasible everybody.
    certified_is_quickest s.model s.plan q s.labels s.last h.valid h.certified feasible everybody
