-- Cuts of a building with some of the people.
use Rattle.std.proofs.Common.{◌≡◌, ℕ, ◌+◌, ◌<◌, ◌≤◌, Bool, cond, not, ◌&&◌, ◌||◌, eqb, length, ap, arith, subst}
use Rattle.std.specs.List.{sum_by}
use Rattle.std.proofs.lemmas.Bool.Decides.{nat_tests}
use Rattle.evac_law.specs.declared.model.Model.{Model}
use Rattle.evac_law.specs.Building.{capacity, entry, people, rate}
use Rattle.evac_law.specs.Cuts.{Cut, cut_value, leaves_cut}
use Rattle.evac_law.specs.Laws.{PartsAreBounded}
use Rattle.evac_law.specs.Parts.{IsPart}
use Rattle.evac_law.specs.Plans.{out_by}
use Rattle.evac_law.specs.Sums.{below, moments_to, places}
use Rattle.evac_law.proofs.SumLemmas.{sum2, sum2-le, sum_by-same}
use Rattle.evac_law.proofs.WeakDuality.{out_le_value, value_is}

pub entry_mono : (b : Bool) (p q : ℕ) → p ≤ q → cond (b || eqb p 0) 0 p ≤ cond (b || eqb q 0) 0 q
entry_mono b p q l = grind (arith, nat_tests)

-- in a building with some of the people a cut is worth no more, and as much where all come whom it counts
module _ (m s : Model) (h : IsPart m s) (x : Cut) (k : ℕ) where
  abbrev came : Model → ℕ → ℕ → ℕ
  came b n t = cond (x n t || eqb (entry b n t) 0) 0 (entry b n t)

  pub leaves_same : (t a : ℕ) → leaves_cut s x k t a ≡ leaves_cut m x k t a
  leaves_same t a = grind arith

  arcs_worth : sum_by (λ t. sum_by (λ a. cond (leaves_cut s x k t a) (rate s a t) 0) (places s.arcs)) (moments_to k)
      ≡ sum_by (λ t. sum_by (λ a. cond (leaves_cut m x k t a) (rate m a t) 0) (places m.arcs)) (moments_to k)
  arcs_worth = grind (arith, sum_by-same, leaves_same)

  holds_worth : sum_by (λ n. sum_by (λ t. cond (x n t && not (x n (t + 1))) (capacity s n) 0) (below k)) (places s.nodes)
      ≡ sum_by (λ n. sum_by (λ t. cond (x n t && not (x n (t + 1))) (capacity m n) 0) (below k)) (places m.nodes)
  holds_worth = grind (arith, sum_by-same)

  entries_count : sum_by (λ n. sum_by (came s n) (moments_to k)) (places s.nodes) ≡ sum2 (length m.nodes) (k + 1) (came s)
  entries_count = ap (λ c. sum_by (λ n. sum_by (came s n) (moments_to k)) (below c)) h.nodes

  pub worth_less : cut_value s x k ≤ cut_value m x k
  worth_less =
      let entries = sum2-le (length m.nodes) (k + 1) (came s) (came m) (λ n t i j. entry_mono (x n t) (entry s n t) (entry m n t) (h.entries n t)) in
      omega (arith, value_is s x k, value_is m x k, arcs_worth, holds_worth, entries_count, entries)

  pub worth_as_much : ((n t : ℕ) → n < length m.nodes → t < k + 1 → came m n t ≤ came s n t) → cut_value m x k ≤ cut_value s x k
  worth_as_much come =
      let entries = sum2-le (length m.nodes) (k + 1) (came m) (came s) come in
      omega (arith, value_is s x k, value_is m x k, arcs_worth, holds_worth, entries_count, entries)

-- so a cut of the building bounds them
pub parts_are_bounded : PartsAreBounded
parts_are_bounded m x v (p, h) =
    let s = h.some in
    let bound = out_le_value s x p s.horizon h.valid h.feasible in
    let P : ℕ → Type 0 = λ k. out_by s p k ≤ cut_value s x k in
    let here : out_by s p m.horizon ≤ cut_value s x m.horizon = subst P h.part.horizon bound in
    let out : out_by s p m.horizon ≡ people s = subst (λ k. out_by s p k ≡ people s) h.part.horizon h.all_out in
    omega (arith, here, out, worth_less m s h.part x m.horizon, h.count)
