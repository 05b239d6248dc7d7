-- How the number who come out at a moment changes.
use Rattle.std.specs.Prelude.{◌≡◌, ℕ, ◌+◌, ◌<◌, ◌≤◌, List, [], length}
use Rattle.evac_law.specs.declared.model.Model.{Model}
use Rattle.evac_law.specs.declared.plan.Move.{Move}
use Rattle.evac_law.specs.Building.{IsValid, start}
use Rattle.evac_law.specs.Plans.{IsFeasible, out_by}
use Rattle.building_laws.specs.Duality.{IsBestAt}
use Rattle.building_laws.specs.Rooms.{HasSteadyRates}

-- where rates are steady and nobody comes later: as long as fewer are out than start in each node in which somebody starts, no fewer come out
-- at a moment than at the one before
abbrev pub PaceNeverFalls : Type 0
PaceNeverFalls =
    (m : Model) (p s q : List Move) (k : ℕ) → IsValid m → HasSteadyRates m → m.entrants ≡ [] → k + 2 ≤ m.horizon
    → IsBestAt m p k → IsFeasible m s (k + 1) → IsBestAt m q (k + 2)
    → ((n : ℕ) → n < length m.nodes → 0 < start m n → out_by m q (k + 2) < start m n)
    → out_by m s (k + 1) + out_by m s (k + 1) ≤ out_by m p k + out_by m q (k + 2)
