-- The least rate of an arc at which everybody is out by a moment.
use Rattle.std.specs.Prelude.{◌≡◌, ℕ, ◌+◌, ◌<◌, ◌≤◌, ◌⊎◌, Bool, true, false, List, IsTrue}
use Rattle.evac_law.specs.declared.edit.Edit.TheVariants as edits
use Rattle.evac_law.specs.declared.model.Model.{Model}
use Rattle.evac_law.specs.declared.plan.Move.{Move}
use Rattle.evac_law.specs.Building.{people}
use Rattle.evac_law.specs.Certificates.{IsCertified}
use Rattle.evac_law.specs.Cuts.{Cut, IsCut, cut_value}
use Rattle.evac_law.specs.Edits.{edited}
use Rattle.evac_law.specs.LabelTable.{LabelTable}
use Rattle.evac_law.specs.Limits.{rate_limit}
use Rattle.evac_law.specs.Plans.{IsFeasible, out_by}
use Rattle.exit_study.specs.declared.rates.Least.{Least}
use Rattle.exit_study.specs.declared.rates.Least.TheVariants.{Rate, Never}

-- the model with another rate of an arc
abbrev pub at_rate : Model → ℕ → ℕ → Model
at_rate m a r = edited m (edits.Rate a r)

-- some plan has everybody out by k at this rate
abbrev pub IsEnough : Model → ℕ → ℕ → ℕ → Type 0
IsEnough m a k r = (p : List Move) × IsFeasible (at_rate m a r) p k × (out_by (at_rate m a r) p k ≡ people m)

-- what proves a rate enough: a best plan at this rate has everybody out by k
pub record IsClearedBy (m : Model) (k : ℕ) : Type 0 where
  pub plan : List Move
  pub labels : LabelTable
  pub last : ℕ
  pub certified : IsCertified m plan labels last
  pub in_time : last ≤ k

-- what proves a rate too slow: a cut that is worth less than the people at k, or even at the horizon, and that has no pair past that moment
pub record IsTooSlow (m : Model) (k : ℕ) : Type 0 where
  pub cut : Cut
  pub moment : ℕ
  pub by : (moment ≡ k) ⊎ (moment ≡ m.horizon)
  pub is_cut : IsCut m cut
  pub none_later : (n t : ℕ) → IsTrue (cut n t) → t ≤ moment
  pub below_people : cut_value m cut moment < people m

-- whether a rate is enough, with its proof
abbrev pub TellsEnough : Model → ℕ → ℕ → ℕ → Bool → Type 0
TellsEnough m a k r true = IsClearedBy (at_rate m a r) k
TellsEnough m a k r false = IsTooSlow (at_rate m a r) k

-- the rate is enough and no smaller one is; a best plan shows the first, and a cut at the rate below it the second
pub record IsLeastRate (m : Model) (a k r : ℕ) : Type 0 where
  pub in_range : r ≤ rate_limit
  pub enough : IsEnough m a k r
  pub least : (q : ℕ) → q < r → ¬ IsEnough m a k q
  pub cleared : IsClearedBy (at_rate m a r) k
  pub too_slow : (q : ℕ) → q + 1 ≡ r → IsTooSlow (at_rate m a q) k

-- no rate is enough, and a cut at the greatest one shows it
pub record IsNoRate (m : Model) (a k : ℕ) : Type 0 where
  pub none : (r : ℕ) → r ≤ rate_limit → ¬ IsEnough m a k r
  pub too_slow : IsTooSlow (at_rate m a rate_limit) k

abbrev pub IsLeast : Model → ℕ → ℕ → Least → Type 0
IsLeast m a k (Rate r) = IsLeastRate m a k r
IsLeast m a k Never = IsNoRate m a k

-- how far a search is: below `low` no rate is enough, a cut shows that of the one below it, and `high` is enough, where it is a rate
pub record IsSearch (m : Model) (a k low high : ℕ) : Type 0 where
  pub ordered : low ≤ high
  pub in_range : high ≤ rate_limit + 1
  pub too_slow : (q : ℕ) → q + 1 ≡ low → IsTooSlow (at_rate m a q) k
  pub enough : high ≤ rate_limit → IsClearedBy (at_rate m a high) k
