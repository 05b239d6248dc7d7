use Rattle.std.proofs.Common.{◌≡◌, vec_len}
use Rattle.guided_search.proofs.partial_path.PartialPath.cut_circle.Given as goal

abbrev pub invariant-loop-at : goal.invariant-loop-at
invariant-loop-at l = (l.self.sizes ≡ l.initial.self.sizes) × (vec_len l.self.list ≡ vec_len l.initial.self.list)
