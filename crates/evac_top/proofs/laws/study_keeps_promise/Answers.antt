use Rattle.evac_top.proofs.PromiseLemmas.{study_keeps_promise}
use Rattle.evac_top.proofs.laws.study_keeps_promise.Goals as goal

pub returns : goal.returns
returns c = study_keeps_promise
