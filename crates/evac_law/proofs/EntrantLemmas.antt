-- Entrants in order: the people who come into a node at a moment are those of the first that doesn't stand before it.
use Rattle.std.proofs.Common.{◌≡◌, ◌≢◌, ℕ, zero, suc, ◌<◌, ◌≤◌, Bool, true, false, cond, ◌&&◌, ◌||◌, eqb, ltb, List, [], ◌∷◌, length, get_or, ◌∙◌, arith, inl, inr}
use Rattle.std.specs.List.{All, AllPairs, sum_by}
use Rattle.std.specs.List.Sorted.{IsPartitionedBy, IsPartitionPoint}
use Rattle.std.proofs.lemmas.Bool.{cases_lt}
use Rattle.std.proofs.lemmas.Bool.Decides.{nat_tests}
use Rattle.std.proofs.lemmas.List.Sums.{sum_by-cons}
use Rattle.evac_law.specs.Entrants.{ComesBefore, entering}
use Rattle.evac_law.specs.declared.entrant.Entrant.{Entrant}
use Rattle.evac_law.proofs.SumLemmas.{sum_by-nothing, sum_by-same_all}

-- ---- a sum of which one term counts

sum_none : {X : Type 0} (f : X → ℕ) (xs : List X) → All (λ x. f x ≡ 0) xs → sum_by f xs ≡ 0
sum_none f xs h = sum_by-same_all f (λ _. 0) xs h ∙ sum_by-nothing xs

sum_one : {X : Type 0} (f : X → ℕ) (xs : List X) (i : ℕ) (d : X) → i < length xs
    → ((k : ℕ) (e : X) → k < length xs → k ≢ i → f (get_or xs k e) ≡ 0) → sum_by f xs ≡ f (get_or xs i d)
sum_one f [] i d l others = absurd (omega (arith, l))
sum_one f (x ∷ xs) zero d l others =
    omega (arith, sum_by-cons f x xs, sum_none f xs (λ k e h. others (suc k) e (omega (arith, h)) (λ z. omega (arith, z))))
sum_one f (x ∷ xs) (suc i) d l others =
    omega (
      arith,
      sum_by-cons f x xs,
      others 0 d (omega arith) (λ z. omega (arith, z)),
      sum_one f xs i d (omega (arith, l)) (λ k e h z. others (suc k) e (omega (arith, h)) (λ s. z (omega (arith, s)))),
    )

-- ---- entrants and a node at a moment

-- whether an entrant stands before a node and moment
abbrev pub is_before : ℕ → ℕ → Entrant → Bool
is_before n t e = ltb e.node n || (eqb e.node n && ltb e.moment t)

abbrev pub people_at : ℕ → ℕ → Entrant → ℕ
people_at n t e = cond (eqb e.node n && eqb e.moment t) e.people 0

earlier_too : (n t : ℕ) (e f : Entrant) → ComesBefore e f → is_before n t f ≡ true → is_before n t e ≡ true
earlier_too n t e f (inl l) h = grind (arith, nat_tests)
earlier_too n t e f (inr l) h = grind (arith, nat_tests)

before_none : (n t : ℕ) (e : Entrant) → is_before n t e ≡ true → people_at n t e ≡ 0
before_none n t e h = grind (arith, nat_tests)

after_none : (n t : ℕ) (e f : Entrant) → ComesBefore e f → is_before n t e ≡ false → people_at n t f ≡ 0
after_none n t e f (inl l) h = grind (arith, nat_tests)
after_none n t e f (inr l) h = grind (arith, nat_tests)

pub parted : (n t : ℕ) (es : List Entrant) → AllPairs ComesBefore es → IsPartitionedBy (is_before n t) es
parted n t es sorted i j d le l h = elim (cases_lt i j) [
  | inl less ↦ earlier_too n t (get_or es i d) (get_or es j d) (sorted i j d less l) h
  | inr more ↦ let same : i ≡ j = omega arith in rw same h
]

module _ (n t : ℕ) (es : List Entrant) (i : ℕ) (sorted : AllPairs ComesBefore es)
    (point : IsPartitionPoint (λ e. is_before n t e ≡ true) (λ e. is_before n t e ≡ false) es i) where
  pub entering_at : (d : Entrant) → i < length es → entering es n t ≡ people_at n t (get_or es i d)
  unfolding entering
  entering_at d l = sum_one (people_at n t) es i d l others
    where
      others : (k : ℕ) (e : Entrant) → k < length es → k ≢ i → people_at n t (get_or es k e) ≡ 0
      others k e h ne = elim (cases_lt k i) [
        | inl less ↦ before_none n t (get_or es k e) (point.0 k e (omega arith) less)
        | inr more ↦ after_none n t (get_or es i e) (get_or es k e) (sorted i k e (omega (arith, more, ne)) h) (point.1 i e (omega arith) l)
      ]

  pub entering_past : length es ≤ i → entering es n t ≡ 0
  unfolding entering
  entering_past l = sum_none (people_at n t) es (λ k e h. before_none n t (get_or es k e) (point.0 k e (omega arith) (omega (arith, l, h))))
