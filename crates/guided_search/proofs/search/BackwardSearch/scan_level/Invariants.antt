use Rattle.std.proofs.Common.{◌≡◌}
use Rattle.guided_search.proofs.search.BackwardSearch.scan_level.Given as goal

abbrev pub invariant-loop-at : goal.invariant-loop-at
invariant-loop-at l = (l.self.sizes ≡ l.initial.self.sizes)
