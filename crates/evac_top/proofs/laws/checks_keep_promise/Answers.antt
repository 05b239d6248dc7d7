use Rattle.evac_top.proofs.PromiseLemmas.{checks_keep_promise}
use Rattle.evac_top.proofs.laws.checks_keep_promise.Goals as goal

pub returns : goal.returns
returns c = checks_keep_promise
