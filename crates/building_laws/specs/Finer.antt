-- Buildings in shorter periods, and travel times that are rounded to whole periods.
use Rattle.std.specs.Prelude.{◌≡◌, ℕ, ◌+◌, ◌*◌, ◌<◌, ◌≤◌, List, [], length, ◌⊎◌}
use Rattle.evac_law.specs.declared.model.Model.{Model}
use Rattle.evac_law.specs.declared.plan.Move.{Move}
use Rattle.evac_law.specs.Building.{IsValid, arc_at, capacity, entry, rate}
use Rattle.evac_law.specs.Certificates.{IsCertified, IsClearable}
use Rattle.evac_law.specs.LabelTable.{LabelTable}
use Rattle.evac_law.specs.Plans.{IsFeasible, out_by}
use Rattle.building_laws.specs.Delays.{HasRoomForAll}
use Rattle.building_laws.specs.Duality.{IsBestAt}
use Rattle.building_laws.specs.Rooms.{HasRoomForEntries, HasSteadyRates}
use Rattle.building_laws.specs.Shape.{HaveSameShape}

-- the second model has q periods in each period of the first: its arcs share the rate evenly, and who comes in comes in the first of them.
-- Nothing is said of travel times
pub record IsFiner (m f : Model) (q : ℕ) : Type 0 where
  pub shape : HaveSameShape m f
  pub some : 1 ≤ q
  pub horizon : f.horizon + 1 ≡ q * (m.horizon + 1)
  pub capacities : (n : ℕ) → capacity m n ≡ capacity f n
  pub entries : (n t : ℕ) → entry f n (q * t) ≡ entry m n t
  pub between : (n t j : ℕ) → 0 < j → j < q → entry f n (q * t + j) ≡ 0
  pub rates : (a t j : ℕ) → a < length m.arcs → t ≤ m.horizon → j < q → rate m a t ≡ q * rate f a (q * t + j)

-- and its travel times are q times as long
pub record IsInShorterPeriods (m f : Model) (q : ℕ) : Type 0 where
  pub finer : IsFiner m f q
  pub travels : (a : ℕ) → (arc_at f a).travel ≡ q * (arc_at m a).travel

-- best plans of both have as many out by the end of each long period, and either model can be cleared if the other can
pub record AgreeByPeriods (m f : Model) (q : ℕ) : Type 0 where
  pub curve : (p r : List Move) (k z : ℕ) → k ≤ m.horizon → z + 1 ≡ q * (k + 1) → IsBestAt m p k → IsBestAt f r z → out_by m p k ≡ out_by f r z
  pub clears : IsClearable m → IsClearable f
  pub clears_back : IsClearable f → IsClearable m

-- if nobody comes later, or each node has room for everybody, shorter periods change nothing
abbrev pub FinerPeriodsAgree : Type 0
FinerPeriodsAgree =
    (m f : Model) (q : ℕ) → IsValid m → IsValid f → IsInShorterPeriods m f q → (m.entrants ≡ []) ⊎ HasRoomForAll m → AgreeByPeriods m f q

-- so a model that is cleared at moment c is cleared in one of the short periods of that moment
abbrev pub FinerClearsWithin : Type 0
FinerClearsWithin =
    (m f : Model) (q : ℕ) → IsValid m → IsValid f → IsInShorterPeriods m f q → (m.entrants ≡ []) ⊎ HasRoomForAll m
    → (p r : List Move) (l i : LabelTable) (c d : ℕ) → IsCertified m p l c → IsCertified f r i d → (q * c ≤ d) × (d + 1 ≤ q * (c + 1))

-- two models in long periods for one in short ones: travel times are no shorter in the slow model, and no longer in the fast one
pub record HasRoundedTravels (slow f fast : Model) (q : ℕ) : Type 0 where
  pub finer_slow : IsFiner slow f q
  pub finer_fast : IsFiner fast f q
  pub up : (a : ℕ) → (arc_at f a).travel ≤ q * (arc_at slow a).travel
  pub down : (a : ℕ) → q * (arc_at fast a).travel ≤ (arc_at f a).travel

-- by the end of each long period no fewer are out than of the slow model and no more than of the fast one; and one can be cleared if a slower one can
pub record LiesBetween (slow f fast : Model) (q : ℕ) : Type 0 where
  pub no_fewer : (p r : List Move) (k z : ℕ) → k ≤ slow.horizon → z + 1 ≡ q * (k + 1) → IsFeasible slow p k → IsBestAt f r z
      → out_by slow p k ≤ out_by f r z
  pub no_more : (p r : List Move) (k z : ℕ) → k ≤ fast.horizon → z + 1 ≡ q * (k + 1) → IsBestAt fast p k → IsFeasible f r z
      → out_by f r z ≤ out_by fast p k
  pub clears : IsClearable slow → IsClearable f
  pub clears_back : IsClearable f → IsClearable fast

-- if rates are steady and there is room, travel times rounded up and rounded down have the true curve between them
abbrev pub RoundedTravelsBracket : Type 0
RoundedTravelsBracket =
    (slow f fast : Model) (q : ℕ) → IsValid slow → IsValid f → IsValid fast → HasRoundedTravels slow f fast q
    → HasSteadyRates f → HasRoomForEntries f → LiesBetween slow f fast q

-- so it is cleared no sooner than the moment of the fast model, and before the moment after that of the slow one
abbrev pub RoundedClearWithin : Type 0
RoundedClearWithin =
    (slow f fast : Model) (q : ℕ) → IsValid slow → IsValid f → IsValid fast → HasRoundedTravels slow f fast q
    → HasSteadyRates f → HasRoomForEntries f
    → (p r s : List Move) (l i j : LabelTable) (b d c : ℕ) → IsCertified fast p l b → IsCertified f r i d → IsCertified slow s j c
    → (q * b ≤ d) × (d + 1 ≤ q * (c + 1))
