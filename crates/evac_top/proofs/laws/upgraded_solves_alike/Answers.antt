use Rattle.evac_top.proofs.TwoRunsLemmas.{upgraded_solves_alike}
use Rattle.evac_top.proofs.laws.upgraded_solves_alike.Goals as goal

pub returns : goal.returns
returns c = upgraded_solves_alike
