use Rattle.clearing_report.proofs.TimeLemmas.{IsBest}
use Rattle.clearing_report.proofs.times.nearest.Given as goal

abbrev pub invariant-loop-arc : goal.invariant-loop-arc
invariant-loop-arc l = IsBest l.model l.times l.arc l.best
