-- Target flows.
use Rattle.std.specs.Prelude.{◌≡◌, vec_len}
use Rattle.residual_ways.specs.declared.sizes.Sizes.{Sizes}
use Rattle.guided_search.specs.declared.target_flow.TargetFlow.{TargetFlow}

-- a search along a flow may begin in a building: the flow has each cell, and each pair tells how far searches have come there
pub record IsReady (building : Sizes) (target : TargetFlow) : Type 0 where
  pub sizes : target.sizes ≡ building
  pub cells : vec_len target.cells ≡ building.cells
  pub visits : vec_len target.visits ≡ building.pairs
