use Rattle.std.proofs.Common.{◌≡◌, vec_len}
use Rattle.guided_search.proofs.partial_path.PartialPath.straighten.Given as goal

abbrev pub invariant-loop-at : goal.invariant-loop-at
invariant-loop-at l = record {
  path : l.self.sizes ≡ l.initial.self.sizes;
  stays : vec_len l.self.list ≡ vec_len l.initial.self.list;
  straight : l.straight.sizes ≡ l.self.sizes;
}
