use Rattle.std.proofs.Common.{◌≡◌}
use Rattle.guided_search.proofs.distances.Distances.close.Given as goal

abbrev pub invariant-loop-node : goal.invariant-loop-node
invariant-loop-node l = (l.self.sizes ≡ l.initial.self.sizes)
