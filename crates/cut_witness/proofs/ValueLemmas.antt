-- How many items a cut has.
use Rattle.std.proofs.Common.{ℕ, ◌+◌, ◌*◌, ◌^◌, ◌<◌, ◌≤◌, Bool, true, false, cond, List, [], ◌∷◌, ◌++◌, length, arith, subst, length-append}
use Rattle.std.specs.List.{sum_by, flat_map}
use Rattle.std.proofs.lemmas.List.Concat.{length-flat_map}
use Rattle.std.proofs.lemmas.List.FromFn.{length-range_with_len}
use Rattle.std.proofs.lemmas.List.Sums.{sum_by-le}
use Rattle.std.proofs.Math.Nat.{mul-le-mul_left}
use Rattle.evac_law.specs.declared.model.Model.{Model}
use Rattle.evac_law.specs.Building.{IsValid}
use Rattle.evac_law.specs.Cuts.{Cut, arc_items, arc_part, cut_items, entry_items, entry_part, hold_items, hold_part}
use Rattle.evac_law.specs.Limits.{cell_limit}
use Rattle.evac_law.specs.Sums.{below}
use Rattle.evac_law.proofs.SumLemmas.{All-below}

-- a table of n rows and k columns with at most one item at each place
table_few : {A : Type 0} (h : ℕ → ℕ → List A) (n k : ℕ) → ((i j : ℕ) → length (h i j) ≤ 1)
    → length (flat_map (λ i. flat_map (h i) (below k)) (below n)) ≤ n * k
table_few h n k e =
    let row : (i : ℕ) → length (flat_map (h i) (below k)) ≤ k = λ i.
    omega (
      arith,
      length-flat_map (h i) (below k),
      sum_by-le (λ j. length (h i j)) 1 (below k) (All-below _ k (λ j l. e i j)),
      length-range_with_len 0 k,
    ) in
    let all = sum_by-le (λ i. length (flat_map (h i) (below k))) k (below n) (All-below _ n (λ i l. row i)) in
    omega (
      arith,
      length-flat_map (λ i. flat_map (h i) (below k)) (below n),
      subst (λ c. sum_by (λ i. length (flat_map (h i) (below k))) (below n) ≤ c * k) (length-range_with_len 0 n) all,
    )

at_most_one : {A : Type 0} (b : Bool) (x : A) → (length (cond b [] (x ∷ [])) ≤ 1) × (length (cond b (x ∷ []) []) ≤ 1)
at_most_one true x = (omega arith, omega arith)
at_most_one false x = (omega arith, omega arith)

-- the tables of entries, holds and arcs fit into the cells of a building twice
tables_fit : (n a h k c : ℕ) → k ≤ h → (n + a) * (h + 1) ≤ c → n * (k + 1) + (n * k + (k + 1) * a) ≤ c + c
tables_fit n a h k c l f = grind (arith, mul-le-mul_left)

pub few_items : (m : Model) (x : Cut) (k : ℕ) → IsValid m → k ≤ m.horizon → length (cut_items m x k) < 2 ^ 32
unfolding cut_items cell_limit
few_items m x k v l =
    omega (
      arith,
      length-append (entry_items m x k) (hold_items m x k ++ arc_items m x k),
      length-append (hold_items m x k) (arc_items m x k),
      table_few (entry_part m x) (length m.nodes) (k + 1) (λ n t. (at_most_one _ _).0),
      table_few (hold_part m x) (length m.nodes) k (λ n t. (at_most_one _ _).1),
      table_few (arc_part m x k) (k + 1) (length m.arcs) (λ t a. (at_most_one _ _).1),
      tables_fit (length m.nodes) (length m.arcs) m.horizon k cell_limit l v.cells_fit,
    )
