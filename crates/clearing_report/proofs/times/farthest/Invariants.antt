use Rattle.clearing_report.proofs.TimeLemmas.{IsFarthest}
use Rattle.clearing_report.proofs.times.farthest.Given as goal

abbrev pub invariant-loop-node : goal.invariant-loop-node
invariant-loop-node l = IsFarthest l.model l.times l.node l.far
