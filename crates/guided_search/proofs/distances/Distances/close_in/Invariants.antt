use Rattle.std.proofs.Common.{◌≡◌}
use Rattle.guided_search.proofs.distances.Distances.close_in.Given as goal

abbrev pub invariant-loop-moment : goal.invariant-loop-moment
invariant-loop-moment l = (l.self.sizes ≡ l.initial.self.sizes)
