-- How often a test holds among the first moments, and what that says of a node and of an arc.
use Rattle.std.proofs.Common.{◌≡◌, ℕ, zero, suc, ◌+◌, ◌-◌, ◌<◌, ◌≤◌, Bool, true, false, cond, ◌⊎◌, leb, refl, ap, arith, inl, inr, subst}
use Rattle.std.specs.List.{sum_by}
use Rattle.std.proofs.lemmas.Bool.{cases_Bool, cases_lt, lt-leb, le-leb}
use Rattle.evac_law.specs.Sums.{below}
use Rattle.evac_law.proofs.SumLemmas.{All-below, sum_below-le, sum_below-suc, sum_by-le_all}

-- ---- sums over the first moments

pub termwise : (f g : ℕ → ℕ) (n : ℕ) → ((t : ℕ) → t < n → f t ≤ g t) → sum_by f (below n) ≤ sum_by g (below n)
termwise f g n h = sum_by-le_all f g (below n) (All-below (λ t. f t ≤ g t) n h)

-- terms that are no smaller, and one that is greater by w
pub one_more : (f g : ℕ → ℕ) (w n i : ℕ) → i < n → ((j : ℕ) → j < n → f j ≤ g j) → f i + w ≤ g i → sum_by f (below n) + w ≤ sum_by g (below n)
one_more f g w zero i l h e = absurd (omega (arith, l))
one_more f g w (suc n) i l h e = elim (cases_lt i n) [
  | inl less ↦ omega (arith, sum_below-suc f n, sum_below-suc g n, h n (omega arith), one_more f g w n i less (λ j s. h j (omega (arith, s))) e)
  | inr last ↦
      let same : i ≡ n = omega (arith, l, last) in
      let here = subst (λ j. f j + w ≤ g j) same e in
      omega (arith, sum_below-suc f n, sum_below-suc g n, here, termwise f g n (λ t s. h t (omega (arith, s))))
]

-- ---- counts

-- the number of moments below n at which a test holds
abbrev pub count : (ℕ → Bool) → ℕ → ℕ
count b n = sum_by (λ t. cond (b t) 1 0) (below n)

-- and at which it fails
abbrev pub misses : (ℕ → Bool) → ℕ → ℕ
misses b n = sum_by (λ t. cond (b t) 0 1) (below n)

one_or_other : (b : Bool) → cond b 1 0 + cond b 0 1 ≡ 1
one_or_other b = grind arith

pub hits_and_misses : (b : ℕ → Bool) (n : ℕ) → count b n + misses b n ≡ n
hits_and_misses b zero = refl
hits_and_misses b (suc n) =
    omega (arith, sum_below-suc (λ t. cond (b t) 1 0) n, sum_below-suc (λ t. cond (b t) 0 1) n, one_or_other (b n), hits_and_misses b n)

one : (b : Bool) → b ≡ true → ◌≡◌ {A = ℕ} (cond b 1 0) 1
one b e = grind arith

none : (b : Bool) → b ≡ false → ◌≡◌ {A = ℕ} (cond b 1 0) 0
none b e = grind arith

-- a test that holds only from lo on and before hi
pub run_count : (b : ℕ → Bool) (lo hi n : ℕ) → ((t : ℕ) → b t ≡ true → (lo ≤ t) × (t < hi)) → (count b n ≤ n - lo) × (count b n ≤ hi - lo)
run_count b lo hi zero h = (omega arith, omega arith)
run_count b lo hi (suc n) h =
    let before = run_count b lo hi n h in
    let step = sum_below-suc (λ t. cond (b t) 1 0) n in elim (cases_Bool (b n)) [
      | inl e ↦ let range = h n e in (omega (arith, step, one (b n) e, before, range), omega (arith, step, one (b n) e, before, range))
      | inr e ↦ (omega (arith, step, none (b n) e, before), omega (arith, step, none (b n) e, before))
    ]

-- and one that holds at all of them
run_least : (b : ℕ → Bool) (lo hi n : ℕ) → ((t : ℕ) → lo ≤ t → t < hi → b t ≡ true) → (hi ≤ lo + count b n) ⊎ (n ≤ lo + count b n)
run_least b lo hi zero h = inr (omega arith)
run_least b lo hi (suc n) h =
    let step = sum_below-suc (λ t. cond (b t) 1 0) n in elim (run_least b lo hi n h) [
      | inl enough ↦ inl (omega (arith, step, enough))
      | inr all ↦ elim (cases_lt n lo) [
        | inl before ↦ inr (omega (arith, before))
        | inr from ↦ elim (cases_lt n hi) [
          | inl within ↦ inr (omega (arith, step, all, one (b n) (h n from within)))
          | inr over ↦ inl (omega (arith, step, all, over))
        ]
      ]
    ]

pub run_all : (b : ℕ → Bool) (lo hi n : ℕ) → hi ≤ n → ((t : ℕ) → lo ≤ t → t < hi → b t ≡ true) → hi ≤ lo + count b n
run_all b lo hi n l h = elim (run_least b lo hi n h) [ inl enough ↦ enough | inr all ↦ omega (arith, all) ]

-- the moments from which a journey of d ends by k: all of the first ones, or else all but d of those up to k
ends_count : (d k n : ℕ) → (n ≤ count (λ t. leb (t + d) k) n) ⊎ (k + 1 ≤ count (λ t. leb (t + d) k) n + d)
ends_count d k zero = inl (omega arith)
ends_count d k (suc n) =
    let step = sum_below-suc (λ t. cond (leb (t + d) k) 1 0) n in elim (ends_count d k n) [
      | inr enough ↦ inr (omega (arith, step, enough))
      | inl all ↦ elim (cases_lt k (n + d)) [
        | inl late ↦ inr (omega (arith, step, all, late))
        | inr soon ↦ inl (omega (arith, step, all, one (leb (n + d) k) (le-leb (n + d) k soon)))
      ]
    ]

pub in_time_count : (d k : ℕ) → k + 1 ≤ count (λ t. leb (t + d) k) (k + 1) + d
in_time_count d k = elim (ends_count d k (k + 1)) [ inl all ↦ omega (arith, all) | inr enough ↦ enough ]

-- what is counted where journeys end by k is counted at moments up to k
clipped : (f : ℕ → ℕ) (k n : ℕ) → sum_by (λ s. cond (leb s k) (f s) 0) (below n) ≤ sum_by f (below (k + 1))
clipped f k zero = omega arith
clipped f k (suc n) =
    let step = sum_below-suc (λ s. cond (leb s k) (f s) 0) n in elim (cases_lt k n) [
      | inl late ↦ omega (arith, step, ap (λ z. cond z (f n) 0) (lt-leb n k late), clipped f k n)
      | inr in_time ↦
          let one : cond (leb n k) (f n) 0 ≡ f n = ap (λ z. cond z (f n) 0) (le-leb n k in_time) in
          let first = termwise (λ s. cond (leb s k) (f s) 0) f n (λ t l. grind arith) in
          omega (arith, step, one, first, sum_below-suc f n, sum_below-le f (suc n) (k + 1) (omega arith))
    ]

ended : (f : ℕ → ℕ) (d k n : ℕ)
    → sum_by (λ t. cond (leb (t + d) k) (f (t + d)) 0) (below n) ≤ sum_by (λ s. cond (leb s k) (f s) 0) (below (n + d))
ended f d k zero = omega arith
ended f d k (suc n) =
    let next : suc n + d ≡ suc (n + d) = omega arith in
    omega (
      arith,
      sum_below-suc (λ t. cond (leb (t + d) k) (f (t + d)) 0) n,
      ap (λ i. sum_by (λ s. cond (leb s k) (f s) 0) (below i)) next,
      sum_below-suc (λ s. cond (leb s k) (f s) 0) (n + d),
      ended f d k n,
    )

pub arrivals_count : (f : ℕ → ℕ) (d k n : ℕ) → sum_by (λ t. cond (leb (t + d) k) (f (t + d)) 0) (below n) ≤ sum_by f (below (k + 1))
arrivals_count f d k n = omega (arith, ended f d k n, clipped f k (n + d))

-- ---- looking through numbers

-- a number below n that passes a test, or none does
abbrev pub Found : (ℕ → Bool) → ℕ → Type 0
Found b n = (i : ℕ) × (i < n) × (b i ≡ true)

pub found : (b : ℕ → Bool) (n : ℕ) → Found b n ⊎ ((i : ℕ) → i < n → b i ≡ false)
found b zero = inr (λ i l. absurd (omega (arith, l)))
found b (suc n) = elim (found b n) [
  | inl some ↦ inl (some.0, omega (arith, some.1), some.2)
  | inr never ↦ elim (cases_Bool (b n)) [
    | inl here ↦ inl (n, omega arith, here)
    | inr not_here ↦ inr (λ i l. elim (cases_lt i n) [
      | inl less ↦ never i less
      | inr last ↦ let same : n ≡ i = omega (arith, l, last) in subst (λ j. b j ≡ false) same not_here
    ])
  ]
]
