use Rattle.std.proofs.Common.{◌≡◌}
use Rattle.guided_search.proofs.partial_path.PartialPath.take_back.Given as goal

abbrev pub invariant-loop-later : goal.invariant-loop-later
invariant-loop-later l = (l.self.sizes ≡ l.initial.self.sizes)
