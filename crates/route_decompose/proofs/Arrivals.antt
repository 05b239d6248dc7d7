-- Where nobody is left at the horizon, whoever enters an arc arrives by then.
use Rattle.std.proofs.Common.{◌≡◌, ℕ, ◌+◌, ◌<◌, ◌≤◌, ◌⊎◌, inl, inr, true, false, cond, ◌&&◌, eqb, List, arith}
use Rattle.std.specs.List.{All, sum_by}
use Rattle.std.proofs.lemmas.Bool.{cases_Bool, cases_lt}
use Rattle.evac_law.specs.declared.model.Model.{Model}
use Rattle.evac_law.specs.declared.plan.Move.{Move}
use Rattle.evac_law.specs.Building.{arrival}
use Rattle.evac_law.specs.Plans.{NobodyIsLeft, moved}
use Rattle.evac_law.proofs.SumLemmas.{same_pair, sum_by-le_all, sum_by-nothing}

-- a move past its arrival has nobody
late_move : (b a s t k d r w : ℕ) → (b ≡ a → r ≡ s + d) → k < t + d → (0 < w → s ≤ k → r ≤ k) → s ≤ k → cond (eqb b a && eqb s t) w 0 ≤ 0
late_move b a s t k d r w e late way early = split (cases_Bool (eqb b a && eqb s t)) (cases_lt 0 w)
  where
    split : ((eqb b a && eqb s t) ≡ true) ⊎ ((eqb b a && eqb s t) ≡ false) → (0 < w) ⊎ (w ≤ 0) → cond (eqb b a && eqb s t) w 0 ≤ 0
    split (inl x) (inl some) = let same = same_pair b a s t x in absurd (omega (arith, e same.0, same.1, late, way some early))
    split (inl x) (inr none) = rw x none
    split (inr x) some = rw x (omega arith)

module _ (m : Model) (p : List Move) (nobody : NobodyIsLeft m p m.horizon) (in_time : All (λ (v : Move). v.moment ≤ m.horizon) p) where
  nobody_late : (a t : ℕ) → m.horizon < arrival m a t → moved p a t ≤ sum_by {X = Move} (λ _. 0) p
  unfolding moved
  nobody_late a t l = grind (arith, sum_by-le_all, late_move)

  pub arrives : (a t : ℕ) → 0 < moved p a t → arrival m a t ≤ m.horizon
  arrives a t some = grind (arith, some, nobody_late a t, sum_by-nothing p)
