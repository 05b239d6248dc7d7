-- Where the cells of a building stand in a net of it.
use Rattle.std.specs.Prelude.{◌≡◌, ◌+◌, length}
use Rattle.residual_net.specs.Site.{Site}
use Rattle.residual_ways.specs.declared.sizes.Sizes.{Sizes}

-- the network of a net has so many nodes, arcs and moments
pub record AreSizesOf (site : Site) (sizes : Sizes) : Type 0 where
  pub nodes : site.shape.nodes ≡ sizes.nodes
  pub arcs : length site.shape.ends ≡ sizes.arcs
  pub moments : site.shape.horizon + 1 ≡ sizes.moments
