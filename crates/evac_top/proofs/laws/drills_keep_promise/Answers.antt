use Rattle.evac_top.proofs.PromiseLemmas.{drills_keep_promise}
use Rattle.evac_top.proofs.laws.drills_keep_promise.Goals as goal

pub returns : goal.returns
returns c = drills_keep_promise
