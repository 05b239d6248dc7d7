use Rattle.evac_top.proofs.PromiseLemmas.{upgrades_keep_promise}
use Rattle.evac_top.proofs.laws.upgrades_keep_promise.Goals as goal

pub returns : goal.returns
returns c = upgrades_keep_promise
