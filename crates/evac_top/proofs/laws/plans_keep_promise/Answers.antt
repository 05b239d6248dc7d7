use Rattle.evac_top.proofs.HeadlineLemmas.{plans_keep_promise}
use Rattle.evac_top.proofs.laws.plans_keep_promise.Goals as goal

pub returns : goal.returns
returns c = plans_keep_promise
