use Rattle.std.proofs.Common.{◌≡◌}
use Rattle.guided_search.proofs.partial_path.PartialPath.leave_last.Given as goal

abbrev pub invariant-loop : goal.invariant-loop
invariant-loop l = (l.self.sizes ≡ l.initial.self.sizes)
