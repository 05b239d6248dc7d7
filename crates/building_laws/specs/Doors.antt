-- Doors into exits: what they bring together, and which of several exits to open.
use Rattle.std.specs.Prelude.{◌≡◌, ℕ, ◌+◌, ◌-◌, ◌*◌, ◌^◌, ◌<◌, ◌≤◌, Bool, not, if◌then◌else◌, ◌==◌, List, [], ◌∷◌, length, IsTrue, IsFalse}
use Rattle.std.specs.List.{IsDistinct, list_any, sum_by}
use Rattle.evac_law.specs.declared.model.Model.{Model}
use Rattle.evac_law.specs.declared.plan.Move.{Move}
use Rattle.evac_law.specs.Building.{IsValid, arc_at, capacity, entry, head, is_exit_at, rate}
use Rattle.evac_law.specs.Plans.{IsFeasible, out_by}
use Rattle.building_laws.specs.Duality.{IsBestAt}
use Rattle.building_laws.specs.Shape.{HaveSameShape}

-- the second model is the same, but that arcs into exits may have other rates
pub record DifferAtDoors (m s : Model) : Type 0 where
  pub shape : HaveSameShape m s
  pub horizon : m.horizon ≡ s.horizon
  pub travels : (a : ℕ) → (arc_at m a).travel ≡ (arc_at s a).travel
  pub entries : (n t : ℕ) → entry m n t ≡ entry s n t
  pub capacities : (n : ℕ) → capacity m n ≡ capacity s n
  pub inner : (a t : ℕ) → a < length m.arcs → t ≤ m.horizon → IsFalse (is_exit_at m (head m a)) → rate m a t ≡ rate s a t

-- four models that differ at doors, with two changes, with one, with the other, and with neither: neither change makes a rate smaller, and a rate
-- grows by both changes at most by what it grows by each
pub record HaveTwoChanges (both one other neither : Model) : Type 0 where
  pub at_one : DifferAtDoors both one
  pub at_other : DifferAtDoors both other
  pub at_neither : DifferAtDoors both neither
  pub one_grows : (a t : ℕ) → a < length both.arcs → t ≤ both.horizon → rate neither a t ≤ rate one a t
  pub other_grows : (a t : ℕ) → a < length both.arcs → t ≤ both.horizon → rate neither a t ≤ rate other a t
  pub both_grow : (a t : ℕ) → a < length both.arcs → t ≤ both.horizon → rate both a t + rate neither a t ≤ rate one a t + rate other a t

-- two changes at doors bring together at most what each brings alone, added up
abbrev pub DoorsAreSubstitutes : Type 0
DoorsAreSubstitutes =
    (both one other neither : Model) → IsValid both → IsValid one → IsValid other → IsValid neither → HaveTwoChanges both one other neither
    → (p q u v : List Move) (k : ℕ) → k ≤ both.horizon → IsFeasible both p k → IsFeasible neither q k → IsBestAt one u k → IsBestAt other v k
    → out_by both p k + out_by neither q k ≤ out_by one u k + out_by other v k

-- the second model is the same, but that nobody gets into an exit that a test doesn't keep open
pub record KeepsOpen (m s : Model) (kept : ℕ → Bool) : Type 0 where
  pub at_doors : DifferAtDoors m s
  pub rates : (a t : ℕ) → a < length m.arcs → t ≤ m.horizon → IsTrue (is_exit_at m (head m a))
      → rate s a t ≡ (if kept (head m a) then rate m a t else 0)

-- whether a number is in a list
abbrev pub is_among : List ℕ → ℕ → Bool
is_among es n = list_any (λ e. e == n) es

-- several exits lost together keep inside, by each moment, at least as many people as each of them lost alone, added up
abbrev pub SeveralExitsCostMost : Type 0
SeveralExitsCostMost =
    (m none : Model) (without : ℕ → Model) (lost : List ℕ) → IsValid m → IsValid none → IsDistinct (λ e f. e == f) lost
    → KeepsOpen m none (λ n. not (is_among lost n))
    → ((e : ℕ) → IsTrue (is_among lost e) → IsValid (without e) × KeepsOpen m (without e) (λ n. not (e == n)))
    → (p q : List Move) (plan : ℕ → List Move) (k : ℕ) → k ≤ m.horizon → IsBestAt m p k → IsFeasible none q k
    → ((e : ℕ) → IsTrue (is_among lost e) → IsBestAt (without e) (plan e) k)
    → sum_by (λ e. out_by m p k - out_by (without e) (plan e) k) lost + out_by none q k ≤ out_by m p k

-- for each list of exits the model with just these open, and a plan that is best there by k
pub record HaveChoices (m : Model) (only : List ℕ → Model) (plan : List ℕ → List Move) (k : ℕ) : Type 0 where
  pub valid : (es : List ℕ) → IsValid (only es)
  pub opens : (es : List ℕ) → KeepsOpen m (only es) (is_among es)
  pub best : (es : List ℕ) → IsBestAt (only es) (plan es) k

-- each exit of a list lets at least as many out as any other would, beside those that were chosen before, which follow it
abbrev pub IsGreedy : (List ℕ → ℕ) → List ℕ → Type 0
IsGreedy most [] = Unit {0}
IsGreedy most (e ∷ es) = ((f : ℕ) → most (f ∷ es) ≤ most (e ∷ es)) × IsGreedy most es

-- i exits that were chosen one after the other lack at most (1 - 1/n)^i of the people whom any n exits let out
abbrev pub GreedyExitsAreGood : Type 0
GreedyExitsAreGood =
    (m : Model) (only : List ℕ → Model) (plan : List ℕ → List Move) (k : ℕ) → k ≤ m.horizon → HaveChoices m only plan k
    → (chosen others : List ℕ) → IsGreedy (λ es. out_by (only es) (plan es) k) chosen
    → length others ^ length chosen * out_by (only others) (plan others) k
    ≤ length others ^ length chosen * out_by (only chosen) (plan chosen) k
    + (length others - 1) ^ length chosen * out_by (only others) (plan others) k
