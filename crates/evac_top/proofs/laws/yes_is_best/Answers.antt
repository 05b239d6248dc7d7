use Rattle.evac_top.proofs.PromiseLemmas.{yes_is_best}
use Rattle.evac_top.proofs.laws.yes_is_best.Goals as goal

pub returns : goal.returns
returns c = yes_is_best
