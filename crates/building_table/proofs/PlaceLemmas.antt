-- Places that a search finds.
use Rattle.std.proofs.Common.{◌≡◌, ℕ, ◌<◌, Bool, true, false, cond, nat_lt, List, length, Option, Some, None, MatchOption, refl, ap}
use Rattle.std.specs.List.{list_any, position, position_or_len}
use Rattle.std.proofs.lemmas.Bool.{ltb-true, lt-ltb}
use Rattle.std.proofs.lemmas.List.Folds.{list_any_at}
use Rattle.std.proofs.lemmas.List.Sums.{passes_at_first}
use Rattle.model_text.proofs.ListFacts.{found}

some-by : (t : Bool) (n i : ℕ) → Some i ≡ cond t (Some n) None → (t ≡ true) × (i ≡ n)
some-by true n i h = (refl, (let e : i ≡ n = cc in e))
some-by false n i h = cc

-- a place that was found is the first that passes
position-some : {X : Type 0} (p : X → Bool) (xs : List X) (d : X) (i : ℕ) → Some i ≡ position p xs
    → (list_any p xs ≡ true) × (i ≡ position_or_len p xs)
position-some p xs d i h =
    let s = some-by (nat_lt (position_or_len p xs) (length xs)) (position_or_len p xs) i h in
    let within : position_or_len p xs < length xs = ltb-true _ _ s.0 in
    (list_any_at p xs (position_or_len p xs) d within (passes_at_first p xs d within), s.1)

none-by : {X : Type 0} (p : X → Bool) (xs : List X) (t : Bool) → list_any p xs ≡ t → None ≡ position p xs → t ≡ false
none-by p xs true e h =
    let test : nat_lt (position_or_len p xs) (length xs) ≡ true = lt-ltb _ _ (found p xs e) in
    let some : position p xs ≡ Some (position_or_len p xs) = ap (λ t. cond t (Some (position_or_len p xs)) None) test in cc
none-by p xs false e h = refl

-- a search finds the first that passes, or none does
pub place-found : {X : Type 0} (p : X → Bool) (xs : List X) (d : X) (place : Option ℕ) → place ≡ position p xs
    → MatchOption place (list_any p xs ≡ false) (λ i. (list_any p xs ≡ true) × (i ≡ position_or_len p xs))
place-found p xs d (Some i) h = position-some p xs d i h
place-found p xs d None h = none-by p xs (list_any p xs) refl h
