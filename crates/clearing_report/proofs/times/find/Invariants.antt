use Rattle.clearing_report.specs.Distances.{AreTimes, unknowns}
use Rattle.clearing_report.proofs.times.find.Given as goal

abbrev pub invariant-loop-way : goal.invariant-loop-way
invariant-loop-way l = AreTimes l.model l.times

abbrev pub decreases-loop-way : goal.decreases-loop-way
decreases-loop-way l = unknowns l.times
