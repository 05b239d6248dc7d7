-- The laws of drills.
use Rattle.std.specs.Prelude.{◌≡◌, ℕ, ◌+◌, ◌*◌, ◌≤◌, length}
use Rattle.evac_law.specs.Building.{IsValid}
use Rattle.evac_law.specs.Certificates.{IsClearable}
use Rattle.drill_building.specs.Drill.{drill_model}
use Rattle.drill_building.specs.declared.limits.TheConstants.{STOREY_LIMIT}

-- the model of a number of storeys is valid, with four nodes and four arcs for each
pub record IsDrill (n : ℕ) : Type 0 where
  pub valid : IsValid (drill_model n)
  pub nodes : length (drill_model n).nodes ≡ 4 * n + 3
  pub arcs : length (drill_model n).arcs ≡ 4 * n + 2

-- each number of storeys up to the limit
abbrev pub DrillsAreValid : Type 0
DrillsAreValid = (n : ℕ) → n ≤ STOREY_LIMIT → IsDrill n

-- and each can be cleared
abbrev pub DrillsAreClearable : Type 0
DrillsAreClearable = (n : ℕ) → n ≤ STOREY_LIMIT → IsClearable (drill_model n)
