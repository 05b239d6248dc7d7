-- What a cut is worth in two models.
use Rattle.std.proofs.Common.{◌≡◌, ℕ, ◌+◌, ◌<◌, ◌≤◌, Bool, true, false, cond, not, ◌&&◌, ◌||◌, eqb, length, ap, sym, arith}
use Rattle.std.specs.List.{sum_by}
use Rattle.std.proofs.lemmas.Bool.Decides.{nat_tests}
use Rattle.evac_law.specs.declared.model.Model.{Model}
use Rattle.evac_law.specs.Building.{capacity, entry, rate}
use Rattle.evac_law.specs.Cuts.{Cut, cut_value, leaves_cut}
use Rattle.evac_law.specs.Sums.{below, moments_to, places}
use Rattle.evac_law.proofs.SumLemmas.{All-below, sum2, sum_by-le_all}
use Rattle.evac_law.proofs.WeakDuality.{value_is}
use Rattle.building_laws.proofs.Counts.{termwise}

-- what a cut is worth, by as many nodes and arcs as another model has
pub value_over : (m g : Model) (x : Cut) (k : ℕ) → length m.nodes ≡ length g.nodes → length m.arcs ≡ length g.arcs
    → cut_value g x k
    ≡ sum2 (length m.nodes) (k + 1) (λ n t. cond (x n t || eqb (entry g n t) 0) 0 (entry g n t))
    + (sum2 (length m.nodes) k (λ n t. cond (x n t && not (x n (t + 1))) (capacity g n) 0)
    + sum2 (k + 1) (length m.arcs) (λ t a. cond (leaves_cut g x k t a) (rate g a t) 0))
value_over m g x k nodes arcs =
    omega (
      arith,
      value_is g x k,
      ap (λ i. sum2 i (k + 1) (λ n t. cond (x n t || eqb (entry g n t) 0) 0 (entry g n t))) nodes,
      ap (λ i. sum2 i k (λ n t. cond (x n t && not (x n (t + 1))) (capacity g n) 0)) nodes,
      ap (λ i. sum2 (k + 1) i (λ t a. cond (leaves_cut g x k t a) (rate g a t) 0)) arcs,
    )

module _ (m m' : Model) (x : Cut) (k : ℕ) where
  -- whatever the cut takes in the second model, it takes as much in the first
  pub record TakesLess : Type 0 where
    pub places : length m.nodes ≡ length m'.nodes
    pub arcs : length m.arcs ≡ length m'.arcs
    pub entries : (n t : ℕ) → n < length m'.nodes → x n t ≡ false → entry m' n t ≤ entry m n t
    pub holds : (n t : ℕ) → n < length m'.nodes → (x n t && not (x n (t + 1))) ≡ true → capacity m' n ≤ capacity m n
    pub leaves : (a t : ℕ) → a < length m'.arcs → leaves_cut m' x k t a ≡ true → (leaves_cut m x k t a ≡ true) × (rate m' a t ≤ rate m a t)

  entry_le : (i : Bool) (p q : ℕ) → (i ≡ false → p ≤ q) → cond (i || eqb p 0) 0 p ≤ cond (i || eqb q 0) 0 q
  entry_le i p q h = grind (arith, nat_tests)

  both_le : (b c : Bool) (p q : ℕ) → (b ≡ true → (c ≡ true) × (p ≤ q)) → cond b p 0 ≤ cond c q 0
  both_le b c p q h = grind arith

  pub value_le : TakesLess → cut_value m' x k ≤ cut_value m x k
  value_le less =
      let entries = sum_by-le_all
      (λ n. sum_by (λ t. cond (x n t || eqb (entry m' n t) 0) 0 (entry m' n t)) (moments_to k))
      (λ n. sum_by (λ t. cond (x n t || eqb (entry m n t) 0) 0 (entry m n t)) (moments_to k)) (places m'.nodes)
      (All-below _ (length m'.nodes) (λ n i. termwise _ _ (k + 1) (λ t l. entry_le (x n t) (entry m' n t) (entry m n t) (less.entries n t i)))) in
      let holds = sum_by-le_all
      (λ n. sum_by (λ t. cond (x n t && not (x n (t + 1))) (capacity m' n) 0) (below k))
      (λ n. sum_by (λ t. cond (x n t && not (x n (t + 1))) (capacity m n) 0) (below k)) (places m'.nodes)
      (All-below _ (length m'.nodes) (λ n i. termwise _ _ k (λ t l. both_le (x n t && not (x n (t + 1))) (x n t && not (x n (t + 1))) (capacity m' n) (capacity m n) (λ e. (e, less.holds n t i e))))) in
      let crossed = termwise
      (λ t. sum_by (λ a. cond (leaves_cut m' x k t a) (rate m' a t) 0) (places m'.arcs))
      (λ t. sum_by (λ a. cond (leaves_cut m x k t a) (rate m a t) 0) (places m'.arcs)) (k + 1)
      (λ t l. termwise _ _ (length m'.arcs) (λ a i. both_le (leaves_cut m' x k t a) (leaves_cut m x k t a) (rate m' a t) (rate m a t) (less.leaves a t i))) in
      omega (
        arith,
        value_over m' m x k (sym less.places) (sym less.arcs),
        value_is m' x k,
        entries,
        holds,
        crossed,
      )
