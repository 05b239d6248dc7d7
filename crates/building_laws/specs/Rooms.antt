-- Where rates are steady and there is room, capacities change nothing.
use Rattle.std.specs.Prelude.{◌≡◌, ℕ, ◌<◌, ◌≤◌, List, [], length, Ok}
use Rattle.std.specs.List.{All, sum_by}
use Rattle.evac_law.specs.declared.edit.Edit.{Edit}
use Rattle.evac_law.specs.declared.edit.Edit.TheVariants.{Room}
use Rattle.evac_law.specs.declared.model.Model.{Model}
use Rattle.evac_law.specs.declared.plan.Move.{Move}
use Rattle.evac_law.specs.Building.{IsValid, capacity, entry, node_at, rate}
use Rattle.evac_law.specs.Certificates.{IsClearable}
use Rattle.evac_law.specs.Edits.{applied}
use Rattle.evac_law.specs.Plans.{out_by}
use Rattle.evac_law.specs.Sums.{moments_to}
use Rattle.building_laws.specs.Duality.{IsBestAt}

-- each arc has the same rate at every moment up to the horizon
abbrev pub HasSteadyRates : Model → Type 0
HasSteadyRates m = (a t : ℕ) → a < length m.arcs → t ≤ m.horizon → rate m a t ≡ rate m a 0

-- each node has room for all who ever come into it from nowhere
abbrev pub HasRoomForEntries : Model → Type 0
HasRoomForEntries m = (n : ℕ) → n < length m.nodes → sum_by (entry m n) (moments_to m.horizon) ≤ capacity m n

-- so it is where no arc has a window, and where nobody comes later
abbrev pub NoWindowsAreSteady : Type 0
NoWindowsAreSteady = (m : Model) → All (λ a. a.windows.items ≡ []) m.arcs → HasSteadyRates m

abbrev pub NobodyLaterHasRoom : Type 0
NobodyLaterHasRoom = (m : Model) → IsValid m → m.entrants ≡ [] → HasRoomForEntries m

-- two models are the same but for the capacities of their nodes
pub record DifferInRoom (m m' : Model) : Type 0 where
  pub horizon : m.horizon ≡ m'.horizon
  pub places : length m.nodes ≡ length m'.nodes
  pub nodes : (n : ℕ) → record (node_at m n) { capacity = 0 } ≡ record (node_at m' n) { capacity = 0 }
  pub arcs : m.arcs ≡ m'.arcs
  pub entrants : m.entrants ≡ m'.entrants

-- best plans of both have as many out by each moment, and either building can be cleared where the other can
pub record HaveSameCurve (m m' : Model) : Type 0 where
  pub curve : (p q : List Move) (k : ℕ) → k ≤ m.horizon → IsBestAt m p k → IsBestAt m' q k → out_by m p k ≡ out_by m' q k
  pub clears : IsClearable m → IsClearable m'
  pub clears_back : IsClearable m' → IsClearable m

-- where rates are steady and there is room, capacities change neither how many can be out by a moment nor whether everybody can get out
abbrev pub RoomsKeepMost : Type 0
RoomsKeepMost =
    (m m' : Model) → IsValid m → IsValid m' → DifferInRoom m m' → HasSteadyRates m → HasRoomForEntries m → HasRoomForEntries m' → HaveSameCurve m m'

-- so an edit of a capacity changes neither, where there is room before and after it
abbrev pub RoomEditsKeepMost : Type 0
RoomEditsKeepMost =
    (m m' : Model) (n c : ℕ) (e : Edit) → IsValid m → n < length m.nodes → applied m (Room n c) ≡ Ok (m', e)
    → HasSteadyRates m → HasRoomForEntries m → HasRoomForEntries m' → HaveSameCurve m m'
