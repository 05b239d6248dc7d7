-- The cells of places by the sizes of a building.
use Rattle.std.proofs.Common.{◌≡◌, ℕ, ◌+◌, ◌*◌, length, ap, ◌∙◌}
use Rattle.time_expansion.specs.Expansion.{arc_cell, cells, hold_cell}
use Rattle.residual_net.specs.declared.place.Place.TheVariants.{Arc, Hold, Supply}
use Rattle.residual_net.specs.Site.{Site, cell_of}
use Rattle.residual_ways.specs.Layout.{AreSizesOf}
use Rattle.residual_ways.specs.declared.sizes.Sizes.{Sizes}

-- the cells of arcs come first
pub arc_stands : (site : Site) (sizes : Sizes) (a t : ℕ) → AreSizesOf site sizes → cell_of site (Arc a t) ≡ a * sizes.moments + t
unfolding cell_of arc_cell
arc_stands site sizes a t same = ap (λ m. a * m + t) same.moments

-- those of waits come after them
pub wait_stands : (site : Site) (sizes : Sizes) (n t : ℕ) → AreSizesOf site sizes → cell_of site (Hold n t) ≡ (sizes.arcs + n) * sizes.moments + t
unfolding cell_of hold_cell
wait_stands site sizes n t same =
    ap (λ a. (a + n) * (site.shape.horizon + 1) + t) same.arcs
    ∙ ap (λ m. (sizes.arcs + n) * m + t) same.moments

-- and those of supplies after these
pub supply_stands : (site : Site) (sizes : Sizes) (n t : ℕ) → AreSizesOf site sizes
    → cell_of site (Supply n t) ≡ (sizes.nodes + sizes.arcs) * sizes.moments + (n * sizes.moments + t)
unfolding cell_of cells
supply_stands site sizes n t same =
    ap (λ k. (k + length site.shape.ends) * (site.shape.horizon + 1) + (n * (site.shape.horizon + 1) + t)) same.nodes
    ∙ ap (λ a. (sizes.nodes + a) * (site.shape.horizon + 1) + (n * (site.shape.horizon + 1) + t)) same.arcs
    ∙ ap (λ m. (sizes.nodes + sizes.arcs) * m + (n * m + t)) same.moments
