use Rattle.exit_study.proofs.Trying.{too_slow_is_not_enough}
use Rattle.exit_study.proofs.laws.too_slow_is_not_enough.Goals as goal

pub returns : goal.returns
returns c = too_slow_is_not_enough
