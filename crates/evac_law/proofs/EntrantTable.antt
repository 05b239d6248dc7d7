-- The entrants of a table: what they add up to, and their order.
use Rattle.std.proofs.Common.{◌≡◌, ℕ, zero, suc, ◌+◌, ◌<◌, ◌≤◌, Bool, true, false, cond, ◌&&◌, ◌||◌, eqb, [], ◌∷◌, get_or, refl, ap, sym, ◌∙◌, arith, inl, inr}
use Rattle.std.specs.List.{All, AllPairs, flat_map, sum_by}
use Rattle.std.proofs.lemmas.List.Elements.{All-weaker}
use Rattle.std.proofs.lemmas.Bool.{cases_Bool, ne_eqb, or_parts}
use Rattle.std.proofs.lemmas.Bool.Decides.{nat_tests}
use Rattle.evac_law.specs.Entrants.{ComesBefore, entering, table_entrant, table_entrants}
use Rattle.evac_law.specs.Laws.{EntrantsAreTable}
use Rattle.evac_law.specs.Sums.{below, moments_to}
use Rattle.evac_law.specs.declared.entrant.Entrant.{Entrant}
use Rattle.evac_law.proofs.MoveLemmas.{All-flat_map_at, pairs-flat_map, sum2-at}
use Rattle.evac_law.proofs.SumLemmas.{All-below, sum2, sum2-add, sum2-same, sum_by-flat_map, sum_by-same}
use Rattle.evac_law.proofs.Entries.{once}

-- the table at moments after 0
abbrev later : (ℕ → ℕ → ℕ) → ℕ → ℕ → ℕ
later f n t = cond (eqb t 0) 0 (f n t)

one_entrant : (f : ℕ → ℕ → ℕ) (b : ℕ → ℕ → Bool) (n t : ℕ)
    → sum_by (λ (e : Entrant). cond (b e.node e.moment) e.people 0) (table_entrant f n t) ≡ cond (b n t) (later f n t) 0
one_entrant f b n t = elim (cases_Bool (eqb t 0 || eqb (f n t) 0)) [
  | inl e ↦ rw e (sym (none (b n t) (eqb t 0) (f n t) e))
  | inr e ↦ rw e (rw (or_parts (eqb t 0) (eqb (f n t) 0) e).0 (omega arith))
]
  where
    none : (b z : Bool) (w : ℕ) → (z || eqb w 0) ≡ true → cond b (cond z 0 w) 0 ≡ 0
    none false z w h = refl
    none true true w h = refl
    none true false w h = grind (arith, nat_tests)

-- a sum over the entrants of a table is the sum over the table
sum_entrants : (n k : ℕ) (f : ℕ → ℕ → ℕ) (b : ℕ → ℕ → Bool)
    → sum_by (λ (e : Entrant). cond (b e.node e.moment) e.people 0) (table_entrants n k f) ≡ sum2 n (k + 1) (λ i t. cond (b i t) (later f i t) 0)
unfolding table_entrants
sum_entrants n k f b = grind (arith, sum_by-flat_map, sum_by-same, later)

pub entering-table_entrants : (n k : ℕ) (f : ℕ → ℕ → ℕ) (i t : ℕ) → i < n → 1 ≤ t → t ≤ k → entering (table_entrants n k f) i t ≡ f i t
unfolding entering
entering-table_entrants n k f i t l h g =
    sum_entrants n k f (λ x y. eqb x i && eqb y t) ∙ sum2-at n (k + 1) (later f) i t l (omega arith)
    ∙ ap (λ b. cond b 0 (f i t)) (ne_eqb t 0 (λ e. omega (arith, e, h)))

-- the first column of a table and its entrants are the whole table
pub all_of_table : (n k : ℕ) (f : ℕ → ℕ → ℕ) → sum_by (λ i. f i 0) (below n) + sum_by (λ e. e.people) (table_entrants n k f) ≡ sum2 n (k + 1) f
all_of_table n k f =
    let first = λ (i t : ℕ). cond (eqb t 0) (f i 0) 0 in
    omega (
      arith,
      sum_by-same (λ i. sum_by (first i) (moments_to k)) (λ i. f i 0) (below n) (λ i. once (f i 0) k),
      sum_entrants n k f (λ _ _. true),
      sum2-add n (k + 1) first (later f),
      sum2-same n (k + 1) (λ i t. first i t + later f i t) f each,
    )
  where
    each : (i t : ℕ) → cond (eqb t 0) (f i 0) 0 + later f i t ≡ f i t
    each i zero = omega arith
    each i (suc t) = rw (ne_eqb (suc t) 0 (λ e. omega (arith, e))) (omega arith)

-- ---- the order of the entrants

-- what holds of the one entrant of a node at a moment
record IsEntrantOf (f : ℕ → ℕ → ℕ) (n t : ℕ) (e : Entrant) : Type 0 where
  node : e.node ≡ n
  moment : e.moment ≡ t
  later : 1 ≤ e.moment
  people : e.people ≡ f e.node e.moment
  somebody : 1 ≤ e.people

one_of : (f : ℕ → ℕ → ℕ) (n t : ℕ) → All (IsEntrantOf f n t) (table_entrant f n t)
one_of f n t = elim (cases_Bool (eqb t 0 || eqb (f n t) 0)) [
  | inl e ↦ rw e (λ i d h. absurd (omega (arith, h)))
  | inr e ↦ rw e (λ i d h. only i d h (or_parts (eqb t 0) (eqb (f n t) 0) e))
]
  where
    only : (i : ℕ) (d : Entrant) → i < 1 → (eqb t 0 ≡ false) × (eqb (f n t) 0 ≡ false)
        → IsEntrantOf f n t (get_or (record { node = n; moment = t; people = f n t } ∷ []) i d)
    only zero d h e =
        record { node = refl; moment = refl; later = above t e.0; people = refl; somebody = above (f n t) e.1 }
      where
        above : (w : ℕ) → eqb w 0 ≡ false → 1 ≤ w
        above w z = grind (arith, nat_tests)
    only (suc i) d h e = absurd (omega (arith, h))

pairs_one : (b : Bool) (x : Entrant) → AllPairs ComesBefore (cond b [] (x ∷ []))
pairs_one true x = λ i j d l h. absurd (omega (arith, h))
pairs_one false x = λ i j d l h. absurd (omega (arith, l, h))

-- what holds of the entrants of a node
record IsEntrantAt (f : ℕ → ℕ → ℕ) (k n : ℕ) (e : Entrant) : Type 0 where
  node : e.node ≡ n
  later : 1 ≤ e.moment
  moment : e.moment ≤ k
  people : e.people ≡ f e.node e.moment
  somebody : 1 ≤ e.people

row_of : (f : ℕ → ℕ → ℕ) (k n : ℕ) → All (IsEntrantAt f k n) (flat_map (λ t. table_entrant f n t) (moments_to k))
row_of f k n =
    All-flat_map_at (IsEntrantAt f k n) (λ t. table_entrant f n t) (moments_to k)
    (All-below _ (k + 1) (λ t l. All-weaker (IsEntrantOf f n t) (IsEntrantAt f k n)
    (λ e h. record { node = h.node; later = h.later; moment = omega (arith, h.moment); people = h.people; somebody = h.somebody })
    (table_entrant f n t) (one_of f n t)))

row_sorted : (f : ℕ → ℕ → ℕ) (k n : ℕ) → AllPairs ComesBefore (flat_map (λ t. table_entrant f n t) (moments_to k))
row_sorted f k n =
    pairs-flat_map ComesBefore (λ t. table_entrant f n t) (k + 1)
    (λ t l. pairs_one (eqb t 0 || eqb (f n t) 0) (record { node = n; moment = t; people = f n t }))
    (λ t s l h. All-weaker (IsEntrantOf f n t) (λ e. All (ComesBefore e) (table_entrant f n s))
    (λ e p. All-weaker (IsEntrantOf f n s) (ComesBefore e) (λ g q. inr (p.node ∙ sym q.node, omega (arith, p.moment, q.moment))) (table_entrant f n s) (one_of f n s))
    (table_entrant f n t) (one_of f n t))

-- what holds of all entrants
all_of : (P : Entrant → Type 0) (f : ℕ → ℕ → ℕ) (n k : ℕ) → ((i : ℕ) (e : Entrant) → i < n → IsEntrantAt f k i e → P e) → All P (table_entrants n k f)
unfolding table_entrants
all_of P f n k w =
    All-flat_map_at P (λ i. flat_map (λ t. table_entrant f i t) (moments_to k)) (below n)
    (All-below _ n (λ i l. All-weaker (IsEntrantAt f k i) P (λ e p. w i e l p) (flat_map (λ t. table_entrant f i t) (moments_to k)) (row_of f k i)))

pub sorted-table_entrants : (n k : ℕ) (f : ℕ → ℕ → ℕ) → AllPairs ComesBefore (table_entrants n k f)
unfolding table_entrants
sorted-table_entrants n k f =
    pairs-flat_map ComesBefore (λ i. flat_map (λ t. table_entrant f i t) (moments_to k)) n (λ i l. row_sorted f k i)
    (λ i j l h. All-weaker (IsEntrantAt f k i) (λ e. All (ComesBefore e) (flat_map (λ t. table_entrant f j t) (moments_to k)))
    (λ e p. All-weaker (IsEntrantAt f k j) (ComesBefore e) (λ g q. inl (omega (arith, p.node, q.node))) (flat_map (λ t. table_entrant f j t) (moments_to k)) (row_of f k j))
    (flat_map (λ t. table_entrant f i t) (moments_to k)) (row_of f k i))

pub entrants_are_table : (n k : ℕ) (f : ℕ → ℕ → ℕ) → EntrantsAreTable n k f
entrants_are_table n k f = record {
  same = entering-table_entrants n k f;
  sorted = sorted-table_entrants n k f;
  in_range = all_of (λ e. (e.node < n) × (1 ≤ e.moment) × (e.moment ≤ k)) f n k (λ i e l p. (omega (arith, p.node), p.later, p.moment));
  of_table = all_of (λ e. (1 ≤ e.people) × (e.people ≡ f e.node e.moment)) f n k (λ i e l p. (p.somebody, p.people));
}
