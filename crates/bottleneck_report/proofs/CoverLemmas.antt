-- Spans that begin by a period and reach past it.
use Rattle.std.proofs.Common.{◌≡◌, ℕ, zero, suc, ◌+◌, ◌<◌, ◌≤◌, ◌⊎◌, inl, inr, Bool, true, false, cond, ◌&&◌, ◌||◌, leb, ltb, max, List, [], ◌∷◌, ◌++◌, length, get_or, refl, ap, ap₂, sym, ◌∙◌, arith, add-one, subst}
use Rattle.std.proofs.Math.ListN.{set}
use Rattle.std.specs.List.{filter, list_any}
use Rattle.std.proofs.Math.Bool.{or_assoc}
use Rattle.std.proofs.lemmas.Bool.{cases_eq, le-ltb, lt-ltb}
use Rattle.std.proofs.lemmas.Bool.Decides.{nat_tests}
use Rattle.std.proofs.lemmas.Grind.{common_steps}
use Rattle.std.proofs.lemmas.List.{get_or-set_other, get_or-set_same}
use Rattle.std.proofs.lemmas.List.Elements.{filter-append}
use Rattle.evac_law.specs.Sums.{below}
use Rattle.evac_law.proofs.SumLemmas.{below-suc}
use Rattle.evac_law.proofs.PartLemmas.{any-below, or_false}
use Rattle.bottleneck_report.specs.Covers.{covers}

test_max : (a b c : ℕ) → ltb c (max a b) ≡ (ltb c a || ltb c b)
test_max a b c = grind (arith, nat_tests)

pub any-none : (p : ℕ → Bool) (n : ℕ) → ((i : ℕ) → i < n → p i ≡ false) → list_any p (below n) ≡ false
any-none p zero h = refl
any-none p (suc n) h =
    any-below p n ∙ ap₂ (λ x y. x || y) (any-none p n (λ i l. h i (omega (arith, l)))) (h n (omega arith))

pub any-same : (p q : ℕ → Bool) (n : ℕ) → ((i : ℕ) → i < n → p i ≡ q i) → list_any p (below n) ≡ list_any q (below n)
any-same p q zero h = refl
any-same p q (suc n) h =
    any-below p n ∙ ap₂ (λ x y. x || y) (any-same p q n (λ i l. h i (omega (arith, l)))) (h n (omega arith)) ∙ sym (any-below q n)

-- what fails from a number on needs no test there
pub any-short : (p : ℕ → Bool) (n d : ℕ) → ((i : ℕ) → n ≤ i → p i ≡ false) → list_any p (below (n + d)) ≡ list_any p (below n)
any-short p n zero h = ap (λ i. list_any p (below i)) (omega arith)
any-short p n (suc d) h =
    let more : n + suc d ≡ suc (n + d) = omega arith in
    ap (λ i. list_any p (below i)) more
    ∙ any-below p (n + d)
    ∙ ap₂ (λ x y. x || y) (any-short p n d h) (h (n + d) (omega arith))
    ∙ or_false (list_any p (below n))

-- ---- a span more

-- one list reaches further at one place
widen_step : (i n k to x : ℕ) (r s : Bool) → r ≡ (s || (ltb i n && ltb k to)) → (y : ℕ) → (i ≡ n → y ≡ max x to) → ((i ≡ n → ⊥) → y ≡ x)
    → (r || ltb k y) ≡ ((s || ltb k x) || (ltb i (suc n) && ltb k to))
widen_step i n k to x r s e y here there = split (cases_eq i n)
  where
    next : (i ≡ n → ⊥) → ltb i (suc n) ≡ ltb i n
    next f = grind (arith, nat_tests)

    swap : (a b c : Bool) → ((a || b) || c) ≡ ((a || c) || b)
    swap true b c = refl
    swap false true true = refl
    swap false true false = refl
    swap false false c = sym (or_false c)

    split : (i ≡ n) ⊎ (i ≡ n → ⊥) → (r || ltb k y) ≡ ((s || ltb k x) || (ltb i (suc n) && ltb k to))
    split (inl g) = grind (arith, le-ltb, or_false, test_max, or_assoc, lt-ltb)
    split (inr g) = grind (arith, swap, next)

pub widened : (xs : List ℕ) (i to k n : ℕ) → i < length xs
    → list_any (λ f. ltb k (get_or (set xs i (max (get_or xs i 0) to)) f 0)) (below n) ≡ (list_any (λ f. ltb k (get_or xs f 0)) (below n) || (ltb i n && ltb k to))
widened xs i to k zero l = sym (ap (λ b. b && ltb k to) (le-ltb i 0 (omega arith)))
widened xs i to k (suc n) l =
    any-below (λ f. ltb k (get_or (set xs i (max (get_or xs i 0) to)) f 0)) n
    ∙ widen_step i n k to (get_or xs n 0) (list_any (λ f. ltb k (get_or (set xs i (max (get_or xs i 0) to)) f 0)) (below n)) (list_any (λ f. ltb k (get_or xs f 0)) (below n))
    (widened xs i to k n l) (get_or (set xs i (max (get_or xs i 0) to)) n 0)
    (λ e. subst (λ j. get_or (set xs i (max (get_or xs i 0) to)) j 0 ≡ max (get_or xs j 0) to) e (get_or-set_same xs i (max (get_or xs i 0) to) 0 l))
    (λ d. get_or-set_other xs i n (max (get_or xs i 0) to) 0 (λ e. d (sym e)))
    ∙ ap (λ b. b || (ltb i (suc n) && ltb k to)) (sym (any-below (λ f. ltb k (get_or xs f 0)) n))

-- the periods in a span, with one span more
pub covers_more : (xs : List ℕ) (i to k : ℕ) → i < length xs → covers (set xs i (max (get_or xs i 0) to)) k ≡ (covers xs k || (leb i k && ltb k to))
covers_more xs i to k l = widened xs i to k (k + 1) l ∙ ap (λ b. covers xs k || (b && ltb k to)) (by_next i k)
  where
    by_next : (x y : ℕ) → ltb x (y + 1) ≡ leb x y
    by_next x y = grind (arith, nat_tests)

pub covers_none : (xs : List ℕ) (k : ℕ) → ((f : ℕ) → get_or xs f 0 ≡ 0) → covers xs k ≡ false
covers_none xs k h = any-none (λ f. ltb k (get_or xs f 0)) (k + 1) (λ i l. le-ltb k (get_or xs i 0) (omega (arith, h i)))

-- ---- counting

pub filter-below : (p : ℕ → Bool) (n : ℕ) → length (filter p (below (n + 1))) ≡ length (filter p (below n)) + cond (p n) 1 0
filter-below p n =
    ap (λ i. length (filter p (below i))) (add-one n) ∙ ap (λ l. length (filter p l)) (below-suc n) ∙ ap length (filter-append p (below n) (n ∷ []))
    ∙ last (p n) (filter p (below n))
  where
    last : (b : Bool) (l : List ℕ) → length (l ++ cond b (n ∷ []) []) ≡ length l + cond b 1 0
    last true l = grind (arith, common_steps)
    last false l = grind (arith, common_steps)

pub filter-same : (p q : ℕ → Bool) (n : ℕ) → ((i : ℕ) → i < n → p i ≡ q i) → length (filter p (below n)) ≡ length (filter q (below n))
filter-same p q zero h = refl
filter-same p q (suc n) h =
    ap (λ i. length (filter p (below i))) (sym (add-one n)) ∙ filter-below p n
    ∙ ap₂ (λ x y. x + cond y 1 0) (filter-same p q n (λ i l. h i (omega (arith, l)))) (h n (omega arith))
    ∙ sym (filter-below q n) ∙ ap (λ i. length (filter q (below i))) (add-one n)

-- how far the spans that begin before a period reach
pub record IsFar (xs : List ℕ) (n far : ℕ) : Type 0 where
  pub tests : (j : ℕ) → ltb j far ≡ list_any (λ f. ltb j (get_or xs f 0)) (below n)

pub far_next : (xs : List ℕ) (n far : ℕ) → IsFar xs n far → IsFar xs (n + 1) (max far (get_or xs n 0))
far_next xs n far h = record {
  tests = λ j.
      test_max far (get_or xs n 0) j ∙ ap (λ b. b || ltb j (get_or xs n 0)) (h.tests j) ∙ sym (any-below (λ f. ltb j (get_or xs f 0)) n)
      ∙ ap (λ i. list_any (λ f. ltb j (get_or xs f 0)) (below i)) (sym (add-one n));
}

pub far_covers : (xs : List ℕ) (n far : ℕ) → IsFar xs (n + 1) far → covers xs n ≡ ltb n far
far_covers xs n far h = sym (h.tests n)
