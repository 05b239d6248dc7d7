use Rattle.std.proofs.Common.{arith}
use Rattle.evac_law.specs.Limits.{node_limit, travel_limit}
use Rattle.evac_law.proofs.ValidLemmas.{arc_is}
use Rattle.clearing_report.proofs.times.way_by.Goals as goal

pub overflow_add-result : goal.overflow_add-result
unfolding node_limit travel_limit
overflow_add-result c = grind (arith, arc_is)
