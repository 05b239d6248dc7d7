-- Buildings in which each person counts as so many shares.
use Rattle.std.specs.Prelude.{◌≡◌, ℕ, ◌*◌, ◌<◌, ◌≤◌, List, length}
use Rattle.evac_law.specs.declared.model.Model.{Model}
use Rattle.evac_law.specs.declared.plan.Move.{Move}
use Rattle.evac_law.specs.Building.{IsValid, arc_at, capacity, entry, rate}
use Rattle.evac_law.specs.Certificates.{IsClearable}
use Rattle.evac_law.specs.Plans.{IsFeasible, out_by}
use Rattle.building_laws.specs.Duality.{IsBestAt}
use Rattle.building_laws.specs.Rooms.{HasRoomForEntries}
use Rattle.building_laws.specs.Shape.{HaveSameShape}

-- the second model has s times the people, on the same nodes and arcs, which take as long
pub record HasTimesThePeople (m g : Model) (s : ℕ) : Type 0 where
  pub shape : HaveSameShape m g
  pub horizon : m.horizon ≡ g.horizon
  pub travels : (a : ℕ) → (arc_at m a).travel ≡ (arc_at g a).travel
  pub entries : (n t : ℕ) → entry g n t ≡ s * entry m n t

-- and s times the capacities and, up to the horizon, the rates
pub record HasShares (m g : Model) (s : ℕ) : Type 0 where
  pub people : HasTimesThePeople m g s
  pub capacities : (n : ℕ) → capacity g n ≡ s * capacity m n
  pub rates : (a t : ℕ) → a < length m.arcs → t ≤ m.horizon → rate g a t ≡ s * rate m a t

-- or at least so many
pub record HasSharesOrMore (m g : Model) (s : ℕ) : Type 0 where
  pub people : HasTimesThePeople m g s
  pub capacities : (n : ℕ) → s * capacity m n ≤ capacity g n
  pub rates : (a t : ℕ) → a < length m.arcs → t ≤ m.horizon → s * rate m a t ≤ rate g a t

-- or at most so many
pub record HasSharesOrLess (m g : Model) (s : ℕ) : Type 0 where
  pub people : HasTimesThePeople m g s
  pub capacities : (n : ℕ) → capacity g n ≤ s * capacity m n
  pub rates : (a t : ℕ) → a < length m.arcs → t ≤ m.horizon → rate g a t ≤ s * rate m a t

-- best plans of the second model have s times as many out by each moment; and either model can be cleared if the other can
pub record HasTimesTheCurve (m g : Model) (s : ℕ) : Type 0 where
  pub curve : (p q : List Move) (k : ℕ) → k ≤ m.horizon → IsBestAt m p k → IsBestAt g q k → out_by g q k ≡ s * out_by m p k
  pub clears : HasRoomForEntries g → IsClearable m → IsClearable g
  pub clears_back : 1 ≤ s → HasRoomForEntries m → IsClearable g → IsClearable m

-- nobody gains by going in shares: if all numbers grow alike, so does the curve
abbrev pub SharesAgree : Type 0
SharesAgree = (m g : Model) (s : ℕ) → IsValid m → IsValid g → HasShares m g s → HasTimesTheCurve m g s

-- rates and capacities in shares, rounded down and rounded up to whole people, have the curve between them
abbrev pub RoundedRatesBracket : Type 0
RoundedRatesBracket =
    (slow g fast : Model) (s : ℕ) → IsValid slow → IsValid g → IsValid fast → HasSharesOrMore slow g s → HasSharesOrLess fast g s
    → (p q r : List Move) (k : ℕ) → k ≤ g.horizon → IsFeasible slow p k → IsBestAt g q k → IsBestAt fast r k
    → (s * out_by slow p k ≤ out_by g q k) × (out_by g q k ≤ s * out_by fast r k)
