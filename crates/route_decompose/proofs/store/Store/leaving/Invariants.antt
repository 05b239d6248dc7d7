use Rattle.std.proofs.Common.{◌≡◌, ℕ, ◌<◌, get_or}
use Rattle.time_expansion.specs.Expansion.{arcs_from}
use Rattle.plan_layout.specs.Layouts.{shape_of}
use Rattle.plan_layout.specs.Tables.{people_at}
use Rattle.route_decompose.proofs.store.Store.leaving.Given as goal

abbrev pub invariant-loop-arc : goal.invariant-loop-arc
invariant-loop-arc l = record {
  arcs : l.arcs ≡ arcs_from (shape_of l.self.model) l.node;
  none : (i : ℕ) → i < l.arc-index → people_at l.self.left (get_or l.arcs i 0) l.moment ≡ 0;
}
