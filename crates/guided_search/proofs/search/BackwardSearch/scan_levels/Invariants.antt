use Rattle.std.proofs.Common.{◌≡◌}
use Rattle.guided_search.proofs.search.BackwardSearch.scan_levels.Given as goal

abbrev pub invariant-loop-level : goal.invariant-loop-level
invariant-loop-level l = (l.self.sizes ≡ l.initial.self.sizes)
