use Rattle.evac_law.proofs.FewerLemmas.{parts_are_bounded}
use Rattle.evac_law.proofs.laws.parts_are_bounded.Goals as goal

pub returns : goal.returns
returns c = parts_are_bounded
