-- Steps and stays of a building.
use Rattle.std.specs.Prelude.{ℕ, ◌<◌, ◌≤◌}
use Rattle.residual_ways.specs.declared.sizes.Sizes.{Sizes}
use Rattle.residual_ways.specs.declared.step.Step.{Step}
use Rattle.residual_ways.specs.declared.step.Stay.{Stay}

-- a node of a building at one of its moments
abbrev pub IsPair : Sizes → ℕ → ℕ → Type 0
IsPair sizes node moment = (node < sizes.nodes) × (moment < sizes.moments)

-- a step begins at a pair of the building, and goes over one of its cells
pub record IsStepWithin (sizes : Sizes) (step : Step) : Type 0 where
  pub node : step.node < sizes.nodes
  pub moment : step.moment < sizes.moments
  pub since : step.moment ≤ step.pair
  pub pair : step.pair < sizes.pairs
  pub cell : step.cell < sizes.cells

-- a stay begins no later than its step, which is one of the building
pub record IsStayWithin (sizes : Sizes) (stay : Stay) : Type 0 where
  pub since : stay.since ≤ stay.step.moment
  pub step : IsStepWithin sizes stay.step
