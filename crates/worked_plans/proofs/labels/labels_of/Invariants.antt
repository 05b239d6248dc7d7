use Rattle.evac_law.specs.Certificates.{IsTableOf}
use Rattle.worked_plans.proofs.labels.labels_of.Given as goal

abbrev pub invariant-loop-run : goal.invariant-loop-run
invariant-loop-run l = IsTableOf l.model l.labels
