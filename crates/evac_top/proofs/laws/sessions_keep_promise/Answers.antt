use Rattle.evac_top.proofs.HeadlineLemmas.{sessions_keep_promise}
use Rattle.evac_top.proofs.laws.sessions_keep_promise.Goals as goal

pub returns : goal.returns
returns c = sessions_keep_promise
