-- How soon a building is cleared at the latest, by ways out of a width and a length.
use Rattle.std.specs.Prelude.{◌≡◌, ℕ, ◌+◌, ◌-◌, ◌*◌, ◌<◌, ◌≤◌, ◌⊎◌, List, [], ◌∷◌, length, IsTrue}
use Rattle.std.specs.List.{sum_by}
use Rattle.evac_law.specs.declared.model.Model.{Model}
use Rattle.evac_law.specs.declared.plan.Move.{Move}
use Rattle.evac_law.specs.Building.{IsValid, arc_at, head, is_exit_at, people, rate, start, tail}
use Rattle.evac_law.specs.Certificates.{IsClearable}
use Rattle.evac_law.specs.Plans.{IsFeasible, out_by}
use Rattle.building_laws.specs.Duality.{IsBestAt}
use Rattle.building_laws.specs.Rooms.{HasSteadyRates}

-- a way from a node: arcs, joined end to end, into an exit, each wide enough for r people at once
abbrev pub Way : Model → ℕ → ℕ → List ℕ → Type 0
Way m r n [] = IsTrue (is_exit_at m n)
Way m r n (a ∷ arcs) = (a < length m.arcs) × (r ≤ rate m a 0) × (tail m a ≡ n) × Way m r (head m a) arcs

-- the time that one person needs for it
abbrev pub way_time : Model → List ℕ → ℕ
way_time m arcs = sum_by (λ a. (arc_at m a).travel) arcs

-- nobody comes later, rates are steady, and from each node in which somebody starts a way for r people at once is no longer than u
pub record HasWays (m : Model) (r u : ℕ) : Type 0 where
  pub nobody_later : m.entrants ≡ []
  pub steady : HasSteadyRates m
  pub ways : (n : ℕ) → n < length m.nodes → 0 < start m n → (arcs : List ℕ) × Way m r n arcs × (way_time m arcs ≤ u)

-- from moment u on a best plan has at each moment r more out than any plan had at the one before, until everybody is out; that is so at the
-- latest when r people a moment have been enough, and a horizon that leaves time for that is long enough
pub record KeepsPace (m : Model) (r u : ℕ) : Type 0 where
  pub pace : (p q : List Move) (k : ℕ) → u ≤ k + 1 → k + 1 ≤ m.horizon → IsFeasible m p k → IsBestAt m q (k + 1)
      → (out_by m q (k + 1) ≡ people m) ⊎ (out_by m p k + r ≤ out_by m q (k + 1))
  pub cleared : (q : List Move) (k : ℕ) → k ≤ m.horizon → people m ≤ r * (k + 1 - u) → IsBestAt m q k → out_by m q k ≡ people m
  pub clears : people m ≤ r * (m.horizon + 1 - u) → IsClearable m

abbrev pub WaysKeepPace : Type 0
WaysKeepPace = (m : Model) (r u : ℕ) → IsValid m → HasWays m r u → KeepsPace m r u
