-- Periods in parts: sums over them, and what a node and an arc are worth in a cut of either.
use Rattle.std.proofs.Common.{◌≡◌, ℕ, zero, suc, ◌+◌, ◌*◌, ◌<◌, ◌≤◌, Bool, true, false, cond, not, ◌&&◌, ◌||◌, eqb, refl, ap, sym, ◌∙◌, add-one, arith}
use Rattle.std.specs.List.{sum_by}
use Rattle.std.proofs.Math.Nat.{le_of_mul-le-mul_left, mul-suc, mul-zero, suc-mul}
use Rattle.std.proofs.lemmas.Bool.Decides.{nat_tests}
use Rattle.evac_law.specs.Sums.{below, moments_to}
use Rattle.evac_law.proofs.SumLemmas.{sum_below-le, sum_below-none, sum_below-same, sum_below-suc, sum_by-times, sum_moments-suc, sum_moments-zero}
use Rattle.building_laws.proofs.Counts.{termwise}
use Rattle.building_laws.proofs.WaitingCut.{drop}

pub times_next : (q k : ℕ) → q * (k + 1) ≡ q * k + q
times_next q k = ap (λ i. q * i) (add-one k) ∙ mul-suc q k

-- ---- sums over the parts of periods

append : (h : ℕ → ℕ) (a b : ℕ) → sum_by h (below (a + b)) ≡ sum_by h (below a) + sum_by (λ j. h (a + j)) (below b)
append h a zero =
    let same : a + 0 ≡ a = omega arith in
    omega (arith, ap (λ i. sum_by h (below i)) same, sum_below-none (λ j. h (a + j)))
append h a (suc b) =
    let next : a + suc b ≡ suc (a + b) = omega arith in
    omega (arith, ap (λ i. sum_by h (below i)) next, sum_below-suc h (a + b), sum_below-suc (λ j. h (a + j)) b, append h a b)

pub by_parts : (h : ℕ → ℕ) (q n : ℕ) → sum_by h (below (q * n)) ≡ sum_by (λ t. sum_by (λ j. h (q * t + j)) (below q)) (below n)
by_parts h q zero = ap (λ i. sum_by h (below i)) (mul-zero q)
by_parts h q (suc n) =
    omega (
      arith,
      ap (λ i. sum_by h (below i)) (mul-suc q n),
      append h (q * n) q,
      by_parts h q n,
      sum_below-suc (λ t. sum_by (λ j. h (q * t + j)) (below q)) n,
    )

pub constant : (c n : ℕ) → sum_by (λ _. c) (below n) ≡ n * c
constant c zero = omega arith
constant c (suc n) = omega (arith, sum_below-suc (λ _. c) n, constant c n, suc-mul n c)

-- a sum whose terms after the first are nothing
pub first_alone : (g : ℕ → ℕ) (n : ℕ) → ((j : ℕ) → 0 < j → j ≤ n → g j ≡ 0) → sum_by g (below (suc n)) ≡ g 0
first_alone g zero h = omega (arith, sum_below-suc g 0, sum_below-none g)
first_alone g (suc n) h =
    omega (arith, sum_below-suc g (suc n), first_alone g n (λ j s l. h j s (omega (arith, l))), h (suc n) (omega arith) (omega arith))

-- terms of which q times each is at most r add up to at most r, where there are q of them
pub shared : (g : ℕ → ℕ) (q r : ℕ) → 1 ≤ q → ((j : ℕ) → j < q → q * g j ≤ r) → sum_by g (below q) ≤ r
shared g q r some h =
    let all : q * sum_by g (below q) ≤ q * r =
    omega (arith, sum_by-times q g (below q), termwise (λ j. q * g j) (λ _. r) q h, constant r q) in
    le_of_mul-le-mul_left all (omega (arith, some))

-- ---- entries

only_first : (y : Bool) (p : ℕ) → cond (y || eqb p 0) 0 p ≡ cond y 0 p
only_first y p = grind (arith, nat_tests)

no_entry : (y : Bool) (p : ℕ) → p ≡ 0 → cond (y || eqb p 0) 0 p ≡ 0
no_entry y p e = grind (arith, nat_tests)

-- where people come in at moment 0 alone
pub start_part : (y : ℕ → Bool) (e : ℕ → ℕ) (k : ℕ) → ((t : ℕ) → 0 < t → e t ≡ 0)
    → sum_by (λ t. cond (y t || eqb (e t) 0) 0 (e t)) (moments_to k) ≡ cond (y 0) 0 (e 0)
start_part y e zero h = omega (arith, sum_moments-zero (λ t. cond (y t || eqb (e t) 0) 0 (e t)), only_first (y 0) (e 0))
start_part y e (suc k) h =
    omega (
      arith,
      sum_moments-suc (λ t. cond (y t || eqb (e t) 0) 0 (e t)) k,
      start_part y e k h,
      no_entry (y (suc k)) (e (suc k)) (h (suc k) (omega arith)),
    )

-- ---- a node, from a cut of shorter periods to one of longer ones

module _ (b : ℕ → Bool) (cap : ℕ) where
  at_once : (u v : Bool) → u ≡ v → cond (u && not v) cap 0 ≡ 0
  at_once u v e = grind arith

  one_step : (u v w : Bool) (now then : ℕ) → cond (u && not v) cap 0 + now ≤ then → now ≤ then
      → cond (u && not w) cap 0 + now ≤ then + cond (v && not w) cap 0
  one_step u v w now then h l = grind arith

  -- that a test holds at a moment and fails later costs its capacity on the way
  pub walk : (x d : ℕ) → cond (b x && not (b (x + d))) cap 0 + sum_by (drop b cap) (below x) ≤ sum_by (drop b cap) (below (x + d))
  walk x zero =
      let same : x + 0 ≡ x = omega arith in
      omega (arith, at_once (b x) (b (x + 0)) (ap b (sym same)), ap (λ i. sum_by (drop b cap) (below i)) same)
  walk x (suc d) =
      let next : x + suc d ≡ suc (x + d) = omega arith in
      let after : x + suc d ≡ x + d + 1 = omega arith in
      omega (
        arith,
        ap (λ i. sum_by (drop b cap) (below i)) next,
        sum_below-suc (drop b cap) (x + d),
        ap (λ i. cond (b x && not (b i)) cap 0) after,
        one_step (b x) (b (x + d)) (b (x + d + 1)) (sum_by (drop b cap) (below x)) (sum_by (drop b cap) (below (x + d)))
            (walk x d) (sum_below-le (drop b cap) x (x + d) (omega arith)),
      )

  module _ (q j : ℕ) where
    -- the test at the same part of each period
    abbrev pub part : ℕ → Bool
    part t = b (q * t + j)

    pub hops : (k : ℕ) → sum_by (drop part cap) (below k) + sum_by (drop b cap) (below j) ≤ sum_by (drop b cap) (below (q * k + j))
    hops zero =
        let first : q * 0 + j ≡ j = omega (arith, mul-zero q) in
        omega (arith, ap (λ i. sum_by (drop b cap) (below i)) first, sum_below-none (drop part cap))
    hops (suc k) =
        let there : q * suc k + j ≡ (q * k + j) + q = omega (arith, mul-suc q k) in
        let then : q * (k + 1) + j ≡ (q * k + j) + q = omega (arith, times_next q k) in
        omega (
          arith,
          sum_below-suc (drop part cap) k,
          ap (λ i. cond (b (q * k + j) && not (b i)) cap 0) then,
          walk (q * k + j) q,
          ap (λ i. sum_by (drop b cap) (below i)) there,
          hops k,
        )

    late_start : (now later : Bool) (e : ℕ) → e ≤ cap → cond later 0 e ≤ cond now 0 e + cond (now && not later) cap 0
    late_start now later e l = grind arith

    pub start_node : (e f : ℕ → ℕ) (k z : ℕ) → ((t : ℕ) → 0 < t → e t ≡ 0) → ((t : ℕ) → 0 < t → f t ≡ 0) → f 0 ≡ e 0 → e 0 ≤ cap
        → j < q → z + 1 ≡ q * (k + 1)
        → sum_by (λ t. cond (part t || eqb (e t) 0) 0 (e t)) (moments_to k) + sum_by (drop part cap) (below k)
        ≤ sum_by (λ t. cond (b t || eqb (f t) 0) 0 (f t)) (moments_to z) + sum_by (drop b cap) (below z)
    start_node e f k z alone alone' same fits l last =
        let first : q * 0 + j ≡ j = omega (arith, mul-zero q) in
        let from : 0 + j ≡ j = omega arith in
        omega (
          arith,
          start_part part e k alone,
          start_part b f z alone',
          ap (λ i. cond (b i) 0 (e 0)) first,
          ap (λ w. cond (b 0) 0 w) same,
          late_start (b 0) (b j) (e 0) fits,
          walk 0 j,
          ap (λ i. cond (b 0 && not (b i)) cap 0) from,
          ap (λ i. sum_by (drop b cap) (below i)) from,
          sum_below-none (drop b cap),
          hops k,
          sum_below-le (drop b cap) (q * k + j) z (omega (arith, l, last, times_next q k)),
        )

-- ---- a node, from a cut of longer periods to one of shorter ones

module _ (x y : ℕ → Bool) (cap p : ℕ) (same : (t j : ℕ) → j ≤ p → y (suc p * t + j) ≡ x t) where
  abbrev parts : ℕ → ℕ
  parts t = suc p * t

  still : (u v w : Bool) → u ≡ w → v ≡ w → cond (u && not v) cap 0 ≡ 0
  still u v w e f = grind arith

  within : (t j : ℕ) → j ≤ p → sum_by (drop y cap) (below (parts t + j)) ≡ sum_by (drop y cap) (below (parts t))
  within t zero l =
      let none : parts t + 0 ≡ parts t = omega arith in
      ap (λ i. sum_by (drop y cap) (below i)) none
  within t (suc j) l =
      let next : parts t + suc j ≡ suc (parts t + j) = omega arith in
      let after : parts t + j + 1 ≡ parts t + suc j = omega arith in
      omega (
        arith,
        ap (λ i. sum_by (drop y cap) (below i)) next,
        sum_below-suc (drop y cap) (parts t + j),
        still (y (parts t + j)) (y (parts t + j + 1)) (x t) (same t j (omega (arith, l))) (ap y after ∙ same t (suc j) l),
        within t j (omega (arith, l)),
      )

  across : (t : ℕ) → sum_by (drop y cap) (below (parts t)) ≡ sum_by (drop x cap) (below t)
  across zero = ap (λ i. sum_by (drop y cap) (below i)) (mul-zero (suc p))
  across (suc t) =
      let next : parts (suc t) ≡ suc (parts t + p) = omega (arith, mul-suc (suc p) t) in
      let after : parts t + p + 1 ≡ suc p * (t + 1) + 0 = omega (arith, times_next (suc p) t) in
      omega (
        arith,
        ap (λ i. sum_by (drop y cap) (below i)) next,
        sum_below-suc (drop y cap) (parts t + p),
        ap (λ b. cond (b && not (y (parts t + p + 1))) cap 0) (same t p (omega arith)),
        ap (λ b. cond (x t && not b) cap 0) (ap y after ∙ same (t + 1) 0 (omega arith)),
        within t p (omega arith),
        across t,
        sum_below-suc (drop x cap) t,
      )

  pub coarse_node : (e f : ℕ → ℕ) (k z : ℕ) → ((t : ℕ) → f (suc p * t) ≡ e t) → ((t j : ℕ) → 0 < j → j ≤ p → f (suc p * t + j) ≡ 0)
      → z + 1 ≡ suc p * (k + 1)
      → sum_by (λ t. cond (y t || eqb (f t) 0) 0 (f t)) (moments_to z) + sum_by (drop y cap) (below z)
      ≤ sum_by (λ t. cond (x t || eqb (e t) 0) 0 (e t)) (moments_to k) + sum_by (drop x cap) (below k)
  coarse_node e f k z comes none last =
      let h = λ (s : ℕ). cond (y s || eqb (f s) 0) 0 (f s) in
      let end : z ≡ parts k + p = omega (arith, last, times_next (suc p) k) in
      let each = sum_below-same (λ t. sum_by (λ j. h (suc p * t + j)) (below (suc p))) (λ t. cond (x t || eqb (e t) 0) 0 (e t)) (k + 1)
      (λ t _.
      first_alone (λ j. h (suc p * t + j)) p (λ j s l. no_entry (y (suc p * t + j)) (f (suc p * t + j)) (none t j s l))
      ∙ ap (λ b. cond (b || eqb (f (suc p * t + 0)) 0) 0 (f (suc p * t + 0))) (same t 0 (omega arith))
      ∙ ap (λ w. cond (x t || eqb w 0) 0 w) (ap f (at_zero t) ∙ comes t)) in
      omega (
        arith,
        ap (λ i. sum_by h (below i)) last,
        by_parts h (suc p) (k + 1),
        each,
        ap (λ i. sum_by (drop y cap) (below i)) end,
        within k p (omega arith),
        across k,
      )
    where
      at_zero : (t : ℕ) → suc p * t + 0 ≡ suc p * t
      at_zero t = omega arith

-- ---- an arc

-- from parts to periods: each part of a period where people leave the cut takes its share of the rate
pub coarse_arc : (leaves' leaves : ℕ → Bool) (r' r : ℕ → ℕ) (q k z : ℕ) → 1 ≤ q → z + 1 ≡ q * (k + 1)
    → ((t j : ℕ) → t < k + 1 → j < q → leaves' (q * t + j) ≡ true → leaves t ≡ true)
    → ((t j : ℕ) → t < k + 1 → j < q → r t ≡ q * r' (q * t + j))
    → sum_by (λ s. cond (leaves' s) (r' s) 0) (moments_to z) ≤ sum_by (λ t. cond (leaves t) (r t) 0) (moments_to k)
coarse_arc leaves' leaves r' r q k z some last implies rates =
    let h = λ (s : ℕ). cond (leaves' s) (r' s) 0 in
    let each = termwise (λ t. sum_by (λ j. h (q * t + j)) (below q)) (λ t. cond (leaves t) (r t) 0) (k + 1)
    (λ t l. shared (λ j. h (q * t + j)) q (cond (leaves t) (r t) 0) some
    (λ j i. one (leaves' (q * t + j)) (leaves t) q (r' (q * t + j)) (r t) (implies t j l i) (rates t j l i))) in
    omega (arith, ap (λ i. sum_by h (below i)) last, by_parts h q (k + 1), each)
  where
    one : (u v : Bool) (q w r : ℕ) → (u ≡ true → v ≡ true) → r ≡ q * w → q * cond u w 0 ≤ cond v r 0
    one false v q w r h e = omega (arith, mul-zero q)
    one true v q w r h e = rw (h refl) (omega (arith, e))
