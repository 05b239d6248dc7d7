-- Longer walks never help, where rates are steady and there is room.
use Rattle.std.specs.Prelude.{◌≡◌, ℕ, ◌<◌, ◌≤◌, List, length}
use Rattle.evac_law.specs.declared.model.Model.{Model}
use Rattle.evac_law.specs.declared.plan.Move.{Move}
use Rattle.evac_law.specs.Building.{IsValid, arc_at, head, rate, tail}
use Rattle.evac_law.specs.Certificates.{IsClearable}
use Rattle.evac_law.specs.Plans.{IsFeasible, out_by}
use Rattle.building_laws.specs.Duality.{IsBestAt}
use Rattle.building_laws.specs.Rooms.{HasRoomForEntries, HasSteadyRates}

-- a second model is the same, but that no traversal is shorter, and up to the horizon no rate greater
pub record IsSlower (m m' : Model) : Type 0 where
  pub horizon : m.horizon ≡ m'.horizon
  pub nodes : m.nodes ≡ m'.nodes
  pub entrants : m.entrants ≡ m'.entrants
  pub arcs : length m.arcs ≡ length m'.arcs
  pub tails : (a : ℕ) → tail m a ≡ tail m' a
  pub heads : (a : ℕ) → head m a ≡ head m' a
  pub travels : (a : ℕ) → (arc_at m a).travel ≤ (arc_at m' a).travel
  pub rates : (a t : ℕ) → a < length m.arcs → t ≤ m.horizon → rate m' a t ≤ rate m a t

-- no plan of the second model has more out than a best one of the first, and where it can be cleared so can the first
pub record IsNoBetter (m m' : Model) : Type 0 where
  pub curve : (p q : List Move) (k : ℕ) → k ≤ m.horizon → IsBestAt m p k → IsFeasible m' q k → out_by m' q k ≤ out_by m p k
  pub clears : IsClearable m' → IsClearable m

abbrev pub SlowerIsNoBetter : Type 0
SlowerIsNoBetter = (m m' : Model) → IsValid m → IsValid m' → IsSlower m m' → HasSteadyRates m → HasRoomForEntries m → IsNoBetter m m'
