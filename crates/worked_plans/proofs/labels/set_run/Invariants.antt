use Rattle.std.proofs.Common.{◌≡◌}
use Rattle.worked_plans.proofs.labels.set_run.Given as goal

abbrev pub invariant-loop-moment : goal.invariant-loop-moment
invariant-loop-moment l = (l.labels.nodes ≡ l.initial.labels.nodes) × (l.labels.horizon ≡ l.initial.labels.horizon)
