use Rattle.std.proofs.Common.{arith}
use Rattle.building_laws.proofs.Filled.{equal_is_tight}
use Rattle.building_laws.proofs.laws.equal_is_tight.Goals as goal

pub returns : goal.returns
returns c = λ m x p k valid feasible e. equal_is_tight m x p k valid feasible (omega (arith, e))
