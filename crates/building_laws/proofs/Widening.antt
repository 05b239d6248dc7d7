-- A cut's value grows by what its items grow by.
use Rattle.std.proofs.Common.{◌≡◌, ℕ, ◌+◌, ◌-◌, ◌≤◌, Bool, cond, not, ◌&&◌, ◌||◌, eqb, length, refl, arith}
use Rattle.std.proofs.lemmas.Bool.Decides.{nat_tests}
use Rattle.evac_law.specs.declared.model.Model.{Model}
use Rattle.evac_law.specs.Building.{capacity, entry, rate}
use Rattle.evac_law.specs.Cuts.{Cut, cut_value, leaves_cut}
use Rattle.evac_law.proofs.SumLemmas.{sum2-add, sum2-le}
use Rattle.evac_law.proofs.WeakDuality.{out_le_value, value_is}
use Rattle.building_laws.specs.Looser.{IsLooser}
use Rattle.building_laws.specs.Widening.{WideningIsBounded, gain}
use Rattle.building_laws.proofs.Values.{value_over}

module _ (m m' : Model) (x : Cut) (k : ℕ) (looser : IsLooser m m') (l : k ≤ m.horizon) where
  entry_same : (n t : ℕ) → entry m' n t ≡ entry m n t
  entry_same n t = grind (arith, looser.starts, looser.entrants)

  leaves_same : (t a : ℕ) → leaves_cut m' x k t a ≡ leaves_cut m x k t a
  leaves_same t a = grind (arith, looser.tails, looser.heads, looser.travels, looser.exits)

  grown : (b c : Bool) (p q : ℕ) → c ≡ b → p ≤ q → cond c q 0 ≤ cond b p 0 + cond b (q - p) 0
  grown b c p q e s = grind arith

  same_entry : (i : Bool) (p q : ℕ) → q ≡ p → cond (i || eqb q 0) 0 q ≤ cond (i || eqb p 0) 0 p
  same_entry i p q e = grind (arith, nat_tests)

  pub value_grows : cut_value m' x k ≤ cut_value m x k + gain m m' x k
  value_grows =
      let holds = λ (n t : ℕ). cond (x n t && not (x n (t + 1))) (capacity m n) 0 in
      let more_holds = λ (n t : ℕ). cond (x n t && not (x n (t + 1))) (capacity m' n - capacity m n) 0 in
      let crossed = λ (t a : ℕ). cond (leaves_cut m x k t a) (rate m a t) 0 in
      let more_crossed = λ (t a : ℕ). cond (leaves_cut m x k t a) (rate m' a t - rate m a t) 0 in
      omega (
        arith,
        value_is m x k,
        value_over m m' x k looser.places looser.arcs,
        sum2-le (length m.nodes) (k + 1) (λ n t. cond (x n t || eqb (entry m' n t) 0) 0 (entry m' n t))
            (λ n t. cond (x n t || eqb (entry m n t) 0) 0 (entry m n t))
            (λ n t _ _. same_entry (x n t) (entry m n t) (entry m' n t) (entry_same n t)),
        sum2-le (length m.nodes) k (λ n t. cond (x n t && not (x n (t + 1))) (capacity m' n) 0) (λ n t. holds n t + more_holds n t)
            (λ n t _ _. grown (x n t && not (x n (t + 1))) (x n t && not (x n (t + 1))) (capacity m n) (capacity m' n) refl (looser.rooms n)),
        sum2-add (length m.nodes) k holds more_holds,
        sum2-le (k + 1) (length m.arcs) (λ t a. cond (leaves_cut m' x k t a) (rate m' a t) 0) (λ t a. crossed t a + more_crossed t a)
            (λ t a i j. grown (leaves_cut m x k t a) (leaves_cut m' x k t a) (rate m a t) (rate m' a t) (leaves_same t a)
            (looser.rates a t j (omega (arith, i, l)))),
        sum2-add (k + 1) (length m.arcs) crossed more_crossed,
      )

pub widening_is_bounded : WideningIsBounded
widening_is_bounded m m' x q k valid looser l feasible = omega (arith, out_le_value m' x q k valid feasible, value_grows m m' x k looser l)
