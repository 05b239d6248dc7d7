-- Lists in order into which one more element is put.
use Rattle.std.proofs.Common.{◌≡◌, ℕ, ◌+◌, Bool, true, false, cond, List, [], ◌∷◌, arith}
use Rattle.std.specs.List.{All, AllPairs, list_any, sum_by}
use Rattle.std.proofs.lemmas.Bool.{cond_both, or_parts}
use Rattle.std.proofs.lemmas.List.Elements.{All-cons, All-head, All-nil, All-tail, All-weaker}
use Rattle.std.proofs.lemmas.List.Kept.{AllPairs-cons}
use Rattle.std.proofs.lemmas.List.Sums.{sum_by-cons}
use Rattle.evac_law.proofs.WindowLemmas.{pairs-head, pairs-tail}

-- an element put before the first that it goes before
abbrev pub put-in : {X : Type 0} → (X → X → Bool) → List X → X → List X
put-in before [] y = y ∷ []
put-in before (x ∷ xs) y = cond (before y x) (y ∷ x ∷ xs) (x ∷ put-in before xs y)

-- what holds of each element and of the new one
pub all-put : {X : Type 0} (P : X → Type 0) (before : X → X → Bool) (xs : List X) (y : X) → All P xs → P y → All P (put-in before xs y)
all-put P before [] y all new = All-cons P y [] new all
all-put P before (x ∷ xs) y all new =
    cond_both (before y x) (y ∷ x ∷ xs) (x ∷ put-in before xs y) (All P) (λ _. All-cons P y (x ∷ xs) new all)
    (λ _. All-cons P x (put-in before xs y) (All-head P x xs all) (all-put P before xs y (All-tail P x xs all) new))

pub sum-put : {X : Type 0} (f : X → ℕ) (before : X → X → Bool) (xs : List X) (y : X) → sum_by f (put-in before xs y) ≡ sum_by f xs + f y
sum-put f before [] y = omega (arith, sum_by-cons f y [])
sum-put {X} f before (x ∷ xs) y =
    let more = sum-put f before xs y in
    let P : List X → Type 0 = λ l. sum_by f l ≡ sum_by f (x ∷ xs) + f y in
    cond_both (before y x) (y ∷ x ∷ xs) (x ∷ put-in before xs y) P (λ _. omega (arith, sum_by-cons f y (x ∷ xs)))
    (λ _. omega (arith, sum_by-cons f x xs, sum_by-cons f x (put-in before xs y)))

-- where a new element goes before each that it is put before, and after each other, a list stays in order
pub record Fits {X : Type 0} (R : X → X → Type 0) (before : X → X → Bool) (y x : X) : Type 0 where
  pub front : before y x ≡ true → R y x
  pub back : before y x ≡ false → R x y

pub pairs-put : {X : Type 0} (R : X → X → Type 0) (before : X → X → Bool) (xs : List X) (y : X)
    → ((x z : X) → R y x → R x z → R y z) → All (Fits R before y) xs → AllPairs R xs → AllPairs R (put-in before xs y)
pairs-put R before [] y further fits pairs = AllPairs-cons R y [] (All-nil (R y)) pairs
pairs-put R before (x ∷ xs) y further fits pairs =
    let here = All-head (Fits R before y) x xs fits in
    let rest = All-tail (Fits R before y) x xs fits in
    let later = pairs-head R x xs pairs in
    cond_both (before y x) (y ∷ x ∷ xs) (x ∷ put-in before xs y) (AllPairs R)
    (λ first. AllPairs-cons R y (x ∷ xs)
    (All-cons (R y) x xs (here.front first) (All-weaker (R x) (R y) (λ z. further x z (here.front first)) xs later)) pairs)
    (λ behind. AllPairs-cons R x (put-in before xs y) (all-put (R x) before xs y later (here.back behind))
    (pairs-put R before xs y further rest (pairs-tail R x xs pairs)))

-- where none passes a test, each fails it
pub none-passes : {X : Type 0} (p : X → Bool) (xs : List X) → list_any p xs ≡ false → All (λ x. p x ≡ false) xs
none-passes p [] h = All-nil (λ x. p x ≡ false)
none-passes p (x ∷ xs) h =
    let parts = or_parts (p x) (list_any p xs) h in
    All-cons (λ x. p x ≡ false) x xs parts.0 (none-passes p xs parts.1)
