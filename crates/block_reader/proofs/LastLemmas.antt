-- The last of a list.
use Rattle.std.proofs.Common.{◌≡◌, ◌+◌, ◌-◌, ◌<◌, List, [], ◌∷◌, ◌++◌, length, get_or, take, None, Some, refl, sym, subst, ap, ◌∙◌, inl, inr, arith, length-append}
use Rattle.std.specs.List.{All, AllPairs, slice_get}
use Rattle.std.proofs.lemmas.Bool.{cases_lt}
use Rattle.std.proofs.lemmas.List.{get_or_push, take_all, take_more}
use Rattle.std.proofs.lemmas.Option.{get_or_from_slice_get, slice_get-get_or, slice_get_cases, slice_get_within}
use Rattle.block_reader.specs.Drafts.{last_of}

pub last-push : {X : Type 0} (xs : List X) (x : X) → last_of (xs ++ (x ∷ [])) ≡ Some x
last-push xs x =
    let size : length (xs ++ (x ∷ [])) ≡ length xs + 1 = length-append xs (x ∷ []) in
    let place : length (xs ++ (x ∷ [])) - 1 ≡ length xs = omega arith in
    let within : length xs < length (xs ++ (x ∷ [])) = omega arith in
    ap (slice_get (xs ++ (x ∷ []))) place ∙ slice_get-get_or (xs ++ (x ∷ [])) (length xs) x within ∙ ap (λ y. Some y) (get_or_push xs x x (length xs) refl)

pub last-in : {X : Type 0} (P : X → Type 0) (xs : List X) (q : X) → All P xs → last_of xs ≡ Some q → P q
last-in P xs q all e = subst P (get_or_from_slice_get xs (length xs - 1) q q e) (all (length xs - 1) q (slice_get_within xs (length xs - 1) q e))

-- what holds of the last and a new one holds of each and the new one
pub before-all : {X : Type 0} (R : X → X → Type 0) (trans : (a b c : X) → R a b → R b c → R a c) (xs : List X) (q x : X)
    → AllPairs R xs → last_of xs ≡ Some q → R q x → All (λ v. R v x) xs
before-all {X} R trans xs q x pairs e h = λ k d l.
    let p = length xs - 1 in
    let within : p < length xs = slice_get_within xs p q e in
    let is : get_or xs p d ≡ q = get_or_from_slice_get xs p q d e in
    elim (cases_lt k p) [
      | inl b ↦ trans (get_or xs k d) q x (subst (λ (y : X). R (get_or xs k d) y) is (pairs k p d b within)) h
      | inr b ↦ let same : k ≡ p = omega arith in subst (λ (y : X). R y x) (sym (ap (λ i. get_or xs i d) same ∙ is)) h
    ]

-- a list without a last one has nothing
pub last-none : {X : Type 0} (P : X → Type 0) (xs : List X) → last_of xs ≡ None → All P xs
last-none P xs e = grind (arith, slice_get_cases)

-- a list with a last one ends in it
pub last-split : {X : Type 0} (xs : List X) (x : X) → last_of xs ≡ Some x → (ys : List X) × (xs ≡ ys ++ (x ∷ []))
last-split xs x e =
    let i = length xs - 1 in
    let within = slice_get_within xs i x e in
    (take i xs, sym (take_all (i + 1) xs (omega (arith, within))) ∙ take_more xs i x within ∙ ap (λ y. take i xs ++ (y ∷ [])) (get_or_from_slice_get xs i x x e))
