-- Where people wait in some best plan.
use Rattle.std.specs.Prelude.{◌≡◌, ℕ, ◌<◌, ◌≤◌, List, [], length, IsFalse, pos, ◌≤ℤ◌}
use Rattle.evac_law.specs.declared.model.Model.{Model}
use Rattle.evac_law.specs.declared.plan.Move.{Move}
use Rattle.evac_law.specs.Building.{IsValid, is_exit_at, start}
use Rattle.evac_law.specs.Plans.{held}
use Rattle.building_laws.specs.Duality.{IsBestAt}
use Rattle.building_laws.specs.Rooms.{HasSteadyRates}

-- if rates are steady and nobody comes later, some plan is best by every moment, and never has more people in a node than start there: so nobody
-- waits in a hall, a stair or a lobby in which nobody starts
abbrev pub BestWaitsAtHome : Type 0
BestWaitsAtHome =
    (m : Model) (z : ℕ) → IsValid m → HasSteadyRates m → m.entrants ≡ [] → z ≤ m.horizon
    → (p : List Move) × ((k : ℕ) → k ≤ z → IsBestAt m p k)
    × ((n t : ℕ) → n < length m.nodes → IsFalse (is_exit_at m n) → t ≤ z → held m p n t ≤ℤ pos (start m n))
