use Rattle.evac_top.proofs.TwoRunsLemmas.{session_solves_alike}
use Rattle.evac_top.proofs.laws.session_solves_alike.Goals as goal

pub returns : goal.returns
returns c = session_solves_alike
