use Rattle.std.proofs.Common.{◌≡◌, ℕ, ◌<◌, get_or, length}
use Rattle.std.specs.List.{All}
use Rattle.time_expansion.specs.Expansion.{arcs_to, to_at}
use Rattle.residual_net.specs.declared.place.Place.TheVariants.{Arc}
use Rattle.residual_net.specs.Site.{arrival_at}
use Rattle.residual_net.specs.Network.{flow_at}
use Rattle.residual_net.proofs.cancel.arc_into.Given as goal

abbrev pub invariant-loop-arc : goal.invariant-loop-arc
invariant-loop-arc l = record {
  arcs : l.arcs ≡ arcs_to l.grid.site.shape l.node;
  listed : All (λ a. (a < length l.grid.site.shape.ends) × (to_at l.grid.site.shape a ≡ l.node)) l.arcs;
  none : (i s : ℕ) → i < l.arc-index → arrival_at l.grid.site (get_or l.arcs i 0) s ≡ l.moment → flow_at l.grid (Arc (get_or l.arcs i 0) s) ≡ 0;
}
