use Rattle.evac_top.proofs.HeadlineLemmas.{replans_keep_promise}
use Rattle.evac_top.proofs.laws.replans_keep_promise.Goals as goal

pub returns : goal.returns
returns c = replans_keep_promise
