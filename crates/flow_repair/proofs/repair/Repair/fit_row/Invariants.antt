use Rattle.residual_net.proofs.Begin.{row_so_far}
use Rattle.flow_repair.specs.Repairing.{Refits}
use Rattle.flow_repair.proofs.repair.Repair.fit_row.Given as goal

abbrev pub invariant-loop-moment : goal.invariant-loop-moment
invariant-loop-moment g l = Refits (row_so_far l.kind l.number l.moment) l.fn.self l.self
