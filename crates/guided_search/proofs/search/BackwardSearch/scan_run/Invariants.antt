use Rattle.std.proofs.Common.{◌≡◌}
use Rattle.guided_search.proofs.search.BackwardSearch.scan_run.Given as goal

abbrev pub invariant-loop-passed : goal.invariant-loop-passed
invariant-loop-passed l = (l.self.sizes ≡ l.initial.self.sizes)
