use Rattle.exit_study.proofs.RateLemmas.{enough_stays}
use Rattle.exit_study.proofs.laws.enough_stays.Goals as goal

pub returns : goal.returns
returns c = enough_stays
