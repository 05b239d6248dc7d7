use Rattle.drill_building.proofs.ArcLemmas.{arc-count}
use Rattle.drill_building.proofs.NodeLemmas.{node-count}
use Rattle.drill_building.proofs.Validity.{drill-valid}
use Rattle.drill_building.proofs.laws.drills_are_valid.Goals as goal

pub returns : goal.returns
returns c = λ n few. record { valid = drill-valid n few; nodes = node-count n; arcs = arc-count n }
