-- The laws on a plan that is carried out up to a moment and planned anew from there on.
use Rattle.std.specs.Prelude.{◌≡◌, ℕ, ◌+◌, ◌≤◌, ◌↔◌, List, ◌++◌}
use Rattle.std.specs.List.{All}
use Rattle.evac_law.specs.declared.model.Model.{Model}
use Rattle.evac_law.specs.declared.plan.Move.{Move}
use Rattle.evac_law.specs.Building.{IsValid, people}
use Rattle.evac_law.specs.Certificates.{IsCertified, IsClearable}
use Rattle.evac_law.specs.LabelTable.{LabelTable}
use Rattle.evac_law.specs.Plans.{IsFeasible, TakesAllOut, out_by}
use Rattle.replan.specs.Committed.{SharesMoves, gone_by, moves_before, moves_from}
use Rattle.replan.specs.Rest.{rest}

-- after the moves made before s, moves from s on are feasible in the building exactly where they are in what is left of it, and at every moment
-- those who are out by the one and by the other add up
pub record GoesOnAsRest (m : Model) (p : List Move) (s : ℕ) (r : List Move) : Type 0 where
  pub feasible : (k : ℕ) → s ≤ k → IsFeasible m (moves_before s p ++ r) k ↔ IsFeasible (rest m p s) r k
  pub outs : (k : ℕ) → out_by m (moves_before s p ++ r) k ≡ gone_by m p s k + out_by (rest m p s) r k

abbrev pub RestGoesOn : Type 0
RestGoesOn =
    (m : Model) (p r : List Move) (s : ℕ) → IsValid m → 1 ≤ s → s ≤ m.horizon → TakesAllOut m p → All (λ v. s ≤ v.moment) r
    → GoesOnAsRest m p s r

-- what is left of a building is a building that can be cleared, by the plan's own moves from s on, and nobody is lost in it
pub record IsLeftOver (m : Model) (p : List Move) (s : ℕ) : Type 0 where
  pub valid : IsValid (rest m p s)
  pub cleared : TakesAllOut (rest m p s) (moves_from s p)
  pub clearable : IsClearable (rest m p s)
  pub nobody_lost : gone_by m p s m.horizon + people (rest m p s) ≡ people m

abbrev pub RestIsClearable : Type 0
RestIsClearable = (m : Model) (p : List Move) (s : ℕ) → IsValid m → 1 ≤ s → s ≤ m.horizon → TakesAllOut m p → IsLeftOver m p s

-- the plan that makes p's moves before s and then r's takes everybody out, and at no moment does a feasible plan that makes the same moves before s
-- have more people out
pub record IsBestFrom (m : Model) (p : List Move) (s : ℕ) (r : List Move) : Type 0 where
  pub feasible : (k : ℕ) → IsFeasible m (moves_before s p ++ r) k
  pub all_out : out_by m (moves_before s p ++ r) m.horizon ≡ people m
  pub shares : SharesMoves s p (moves_before s p ++ r)
  pub best : (q : List Move) (k : ℕ) → SharesMoves s p q → IsFeasible m q k → out_by m q k ≤ out_by m (moves_before s p ++ r) k

-- after the moves made before s a certified plan of what is left is best
abbrev pub CertifiedRestIsBest : Type 0
CertifiedRestIsBest =
    (m : Model) (p r : List Move) (s : ℕ) (l : LabelTable) (c : ℕ) → IsValid m → 1 ≤ s → s ≤ m.horizon → TakesAllOut m p
    → IsCertified (rest m p s) r l c → IsBestFrom m p s r

-- where nothing is edited nobody gets out at another moment: those who are gone by the moves of a certified plan, and those who get out of what is left
-- by a certified plan of that, are at each moment as many as are out by the plan
abbrev pub AdvanceKeepsCurve : Type 0
AdvanceKeepsCurve =
    (m : Model) (p r : List Move) (s : ℕ) (l i : LabelTable) (c d : ℕ) → IsValid m → 1 ≤ s → s ≤ m.horizon → IsCertified m p l c
    → IsCertified (rest m p s) r i d → (k : ℕ) → gone_by m p s k + out_by (rest m p s) r k ≡ out_by m p k

-- a plan that is carried out, and then a plan of what is left, is one plan that is carried out
pub record IsCarriedOutOnce (m : Model) (p : List Move) (s : ℕ) (r : List Move) (t : ℕ) : Type 0 where
  pub rest_same : rest (rest m p s) r t ≡ rest m (moves_before s p ++ r) t
  pub gone_add : (k : ℕ) → gone_by m p s k + gone_by (rest m p s) r t k ≡ gone_by m (moves_before s p ++ r) t k

abbrev pub AdvancesAddUp : Type 0
AdvancesAddUp =
    (m : Model) (p r : List Move) (s t : ℕ) → IsValid m → 1 ≤ s → s ≤ t → t ≤ m.horizon → TakesAllOut m p → All (λ v. s ≤ v.moment) r
    → IsCarriedOutOnce m p s r t
