use Rattle.route_decompose.proofs.Laying.{IsTakenFrom}
use Rattle.route_decompose.proofs.lead.take_off.Given as goal

abbrev pub invariant-loop-index : goal.invariant-loop-index
invariant-loop-index l = IsTakenFrom l.fn.store l.store l.node l.moment l.people l.steps l.index

abbrev pub decreases-loop-index : goal.decreases-loop-index
decreases-loop-index l = l.index
