use Rattle.std.proofs.Common.{◌≡◌}
use Rattle.guided_search.proofs.search.BackwardSearch.scan.Given as goal

abbrev pub invariant-loop-way : goal.invariant-loop-way
invariant-loop-way l = (l.self.sizes ≡ l.initial.self.sizes)
