use Rattle.std.proofs.Common.{◌≡◌}
use Rattle.guided_search.proofs.search.BackwardSearch.add_ancestors.Given as goal

abbrev pub invariant-loop-at : goal.invariant-loop-at
invariant-loop-at l = (l.self.sizes ≡ l.initial.self.sizes)
