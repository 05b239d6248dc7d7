use Rattle.evac_top.proofs.TwoRunsLemmas.{solves_agree}
use Rattle.evac_top.proofs.laws.solves_agree.Goals as goal

pub returns : goal.returns
returns c = solves_agree
