-- In how many places somebody is, once some people are taken off.
use Rattle.std.proofs.Common.{◌≡◌, ℕ, ◌+◌, ◌<◌, ◌≤◌, Bool, true, false, cond, ◌&&◌, eqb, ltb, min, refl, ap, ap₂, sym, ◌∙◌, arith, ◌⊎◌, inl, inr}
use Rattle.std.proofs.lemmas.Bool.{cases_lt, eqb-true, lt-ltb}
use Rattle.std.proofs.lemmas.Bool.Decides.{nat_tests}
use Rattle.evac_law.proofs.SumLemmas.{gather_one, sum2, sum2-add, sum2-le}
use Rattle.route_decompose.specs.Stocks.{Empties, IsLessHeld, IsLessLeft, Stock, used}
use Rattle.plan_layout.specs.Tables.{PeopleTable, people_at}
use Rattle.route_decompose.specs.Places.{IsLess, places_in, places_with}

abbrev some : ℕ → ℕ
some x = cond (eqb x 0) 0 1

places-are : (n k : ℕ) (f : ℕ → ℕ → ℕ) → places_with n k f ≡ sum2 n (k + 1) (λ i j. some (f i j))
unfolding places_with
places-are n k f = refl

pub places-le : (n k : ℕ) (f g : ℕ → ℕ → ℕ) → ((i j : ℕ) → i < n → j ≤ k → f i j ≤ g i j) → places_with n k f ≤ places_with n k g
places-le n k f g h =
    let le = sum2-le n (k + 1) (λ i j. some (f i j)) (λ i j. some (g i j)) (λ i j l r. some-le (f i j) (g i j) (h i j l (omega (arith, r)))) in
    omega (arith, places-are n k f, places-are n k g, le)
  where
    some-le : (x y : ℕ) → x ≤ y → some x ≤ some y
    some-le x y l = grind (arith, nat_tests)

pub places-same : (n k : ℕ) (f g : ℕ → ℕ → ℕ) → ((i j : ℕ) → i < n → j ≤ k → f i j ≡ g i j) → places_with n k f ≡ places_with n k g
places-same n k f g h = grind (arith, places-le)

-- ---- one table

no-more : (c d : PeopleTable) → d.rows ≡ c.rows → d.last ≡ c.last → ((i k : ℕ) → people_at d i k ≤ people_at c i k) → places_in d ≤ places_in c
no-more c d rows last fewer = grind (arith, places-le)

pub less-places : (c d : PeopleTable) (n t p : ℕ) → IsLess c d n t p → places_in d ≤ places_in c
less-places c d n t p h = no-more c d h.rows h.last (λ i k. omega (arith, h.cells i k))

one-less : (a b : Bool) (p x y : ℕ) → (a ≡ true → b ≡ true → y ≡ p) → x + cond (a && b) p 0 ≡ y → 1 ≤ p → some x + cond (a && b) 1 0 ≤ some y
one-less true true p x y all e l = let here = all refl refl in grind (arith, nat_tests)
one-less true false p x y all e l = grind (arith, nat_tests)
one-less false b p x y all e l = grind (arith, nat_tests)

-- where all of a place are taken off
pub one-emptied : (c d : PeopleTable) (n t p : ℕ) → IsLess c d n t p → n < c.rows → t ≤ c.last → 1 ≤ p → people_at c n t ≡ p → places_in d + 1 ≤ places_in c
one-emptied c d n t p h row moment some-go all =
    let k = c.last + 1 in
    let f : ℕ → ℕ → ℕ = λ i j. some (people_at d i j) in
    let here : ℕ → ℕ → ℕ = λ i j. cond (eqb n i && eqb t j) 1 0 in
    let le = sum2-le c.rows k (λ i j. f i j + here i j) (λ i j. some (people_at c i j))
    (λ i j l r. one-less (eqb n i) (eqb t j) p (people_at d i j) (people_at c i j) (λ a b. at-place i j a b) (h.cells i j) some-go) in
    let one : sum2 c.rows k here ≡ cond (ltb t k && true) 1 0 = gather_one (λ i j. true) 1 n t c.rows k row in
    let is : ◌≡◌ {A = ℕ} (cond (ltb t k && true) 1 0) 1 = ap (λ b. cond (b && true) 1 0) (lt-ltb t k (omega (arith, moment))) in
    let at : ℕ → ℕ → ℕ = λ n k. places_with n k (people_at d) in
    omega (arith, ap₂ at h.rows h.last, places-are c.rows c.last (people_at d), places-are c.rows c.last (people_at c), sum2-add c.rows k f here, le, one, is)
  where
    at-place : (i j : ℕ) → eqb n i ≡ true → eqb t j ≡ true → people_at c i j ≡ p
    at-place i j a b = ap₂ (λ x y. people_at c x y) (sym (eqb-true n i a)) (sym (eqb-true t j b)) ∙ all

-- ---- what is left of a plan

pub less-left : (v w : Stock) (a t p : ℕ) → IsLessLeft v w a t p → used w ≤ used v
less-left v w a t p h = omega (arith, less-places v.left w.left a t p h.less, ap places_in h.holds, ap places_in h.waiting)

pub less-held : (v w : Stock) (n t p : ℕ) → IsLessHeld v w n t p → used w ≤ used v
less-held v w n t p h = omega (arith, less-places v.holds w.holds n t p h.less, ap places_in h.left, ap places_in h.waiting)

pub least-is : (a b c : ℕ) → c ≡ min a b → (c ≡ a) ⊎ (c ≡ b)
least-is a b c e = grind (arith, cases_lt)

-- people are taken off where they stay at a moment: if they are all who stay there, somebody is left in fewer places
pub emptied-hold : (v w : Stock) (n t p : ℕ) → IsLessHeld v w n t p → n < v.holds.rows → t ≤ v.holds.last → 1 ≤ p → people_at v.holds n t ≡ p
    → used w + 1 ≤ used v
emptied-hold v w n t p less row moment go all =
    omega (arith, one-emptied v.holds w.holds n t p less.less row moment go all, ap places_in less.left, ap places_in less.waiting)

-- or off an arc
pub emptied-left : (v w : Stock) (a t p : ℕ) → IsLessLeft v w a t p → a < v.left.rows → t ≤ v.left.last → 1 ≤ p → people_at v.left a t ≡ p
    → used w + 1 ≤ used v
emptied-left v w a t p less row moment go all =
    omega (arith, one-emptied v.left w.left a t p less.less row moment go all, ap places_in less.holds, ap places_in less.waiting)

-- and from where they came in
pub empties-waiting : (s v w : Stock) (n t p most : ℕ) → Empties s v p most → IsLess v.waiting w.waiting n t p → w.left ≡ v.left → w.holds ≡ v.holds
    → n < v.waiting.rows → t ≤ v.waiting.last → 1 ≤ p → people_at v.waiting n t ≡ most → used w + 1 ≤ used s
empties-waiting s v w n t p most (inl fewer) less left holds row moment go here =
    omega (arith, fewer, less-places v.waiting w.waiting n t p less, ap places_in left, ap places_in holds)
empties-waiting s v w n t p most (inr (all, few)) less left holds row moment go here =
    omega (arith, few, one-emptied v.waiting w.waiting n t p less row moment go (omega (arith, here, all)), ap places_in left, ap places_in holds)
