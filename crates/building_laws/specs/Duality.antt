-- Best plans, and the cuts that show that they are.
use Rattle.std.specs.Prelude.{◌≡◌, ℕ, ◌≤◌, List}
use Rattle.evac_law.specs.declared.model.Model.{Model}
use Rattle.evac_law.specs.declared.plan.Move.{Move}
use Rattle.evac_law.specs.Building.{IsValid}
use Rattle.evac_law.specs.Cuts.{Cut, IsCut, cut_value}
use Rattle.evac_law.specs.Plans.{IsFeasible, out_by}

-- the plan is feasible up to a moment, and none that is has more people out by then
pub record IsBestAt (m : Model) (p : List Move) (k : ℕ) : Type 0 where
  pub feasible : IsFeasible m p k
  pub most : (q : List Move) → IsFeasible m q k → out_by m q k ≤ out_by m p k

-- a cut is worth at a moment just as many as the plan has out by then
abbrev pub HasEqualCut : Model → List Move → ℕ → Type 0
HasEqualCut m p k = (x : Cut) × IsCut m x × (out_by m p k ≡ cut_value m x k)

-- where some plan is feasible up to a moment, one plan is best by every moment up to then at once, and cuts show it
abbrev pub BestAtEveryMoment : Type 0
BestAtEveryMoment =
    (m : Model) (q : List Move) (z : ℕ) → IsValid m → z ≤ m.horizon → IsFeasible m q z
    → (p : List Move) × IsFeasible m p z × ((k : ℕ) → k ≤ z → HasEqualCut m p k)

-- where some plan is feasible up to the horizon, as many people can get out by then as the least cut is worth
abbrev pub MostIsReached : Type 0
MostIsReached =
    (m : Model) (q : List Move) (x : Cut) → IsValid m → IsFeasible m q m.horizon → IsCut m x
    → ((y : Cut) → IsCut m y → cut_value m x m.horizon ≤ cut_value m y m.horizon)
    → (p : List Move) × IsFeasible m p m.horizon × (out_by m p m.horizon ≡ cut_value m x m.horizon)
