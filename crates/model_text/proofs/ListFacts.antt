-- Lists that grow at their end, and tests of names.
use Rattle.std.proofs.Common.{◌≡◌, ℕ, ◌+◌, ◌<◌, Bool, true, false, cond, not, ◌||◌, List, [], ◌∷◌, ◌++◌, length, map, get_or, refl, ap, arith, ◌⊎◌, inl, inr, eq-eqb}
use Rattle.std.specs.List.{list_any, position_or_len}
use Rattle.std.proofs.Math.Seq.{get_or-append_seam}
use Rattle.std.proofs.lemmas.Bool.{and_parts, cases_lt, eqb-true}
use Rattle.std.proofs.lemmas.List.{get_or_append_left, length-append}
use Rattle.std.proofs.lemmas.List.Folds.{list_any_at}
use Rattle.evac_law.specs.declared.name.Kind.{Kind}
use Rattle.evac_law.specs.declared.name.Kind.TheVariants.{Work, Hall, Stair, Lobby, Exit}
use Rattle.evac_law.specs.declared.name.NodeName.{NodeName}
use Rattle.model_text.specs.Taken.{same_kind, same_name}

-- ---- tests

pub not-false : (a : Bool) → not a ≡ false → a ≡ true
not-false true h = refl
not-false false h = cc

same-kind-is : (a b : Kind) → same_kind a b ≡ true → a ≡ b
same-kind-is Work Work h = refl
same-kind-is Hall Hall h = refl
same-kind-is Stair Stair h = refl
same-kind-is Lobby Lobby h = refl
same-kind-is Exit Exit h = refl
same-kind-is a b h = cc

same-kind-self : (a : Kind) → same_kind a a ≡ true
same-kind-self Work = refl
same-kind-self _ = refl

abbrev make-name : Kind → ℕ → ℕ → NodeName
make-name k n f = record { kind = k; number = n; floor = f }

-- the test of names tells whether they are equal
pub same-name-is : (a b : NodeName) → same_name a b ≡ true → a ≡ b
same-name-is a b h = grind (arith, and_parts, same-kind-is, eqb-true)

pub same-name-self : (a : NodeName) → same_name a a ≡ true
same-name-self a = rw (same-kind-self a.kind, eq-eqb a.number a.number refl, eq-eqb a.floor a.floor refl) refl

-- ---- look-ups

found-by : {X : Type 0} (p : X → Bool) (x : X) (xs : List X) (t : Bool) → p x ≡ t → (list_any p xs ≡ true → position_or_len p xs < length xs) → t || list_any p xs ≡ true
    → cond (not t) (1 + position_or_len p xs) 0 < length (x ∷ xs)
found-by p x xs true e ih h = omega arith
found-by p x xs false e ih h = let i = ih h in omega arith

-- where some element passes, the first that does has a place
pub found : {X : Type 0} (p : X → Bool) (xs : List X) → list_any p xs ≡ true → position_or_len p xs < length xs
found p [] h = cc
found p (x ∷ xs) h = found-by p x xs (p x) refl (found p xs) h

-- where none passes, one that passes has no place
pub missing : {X : Type 0} (p : X → Bool) (xs : List X) (i : ℕ) (d : X) → list_any p xs ≡ false → i < length xs → p (get_or xs i d) ≡ true → ⊥
missing p xs i d none within pass = let h = list_any_at p xs i d within pass in cc

-- whether some image passes
pub any-map : {X Y : Type 0} (p : Y → Bool) (f : X → Y) (xs : List X) → list_any p (map f xs) ≡ list_any (λ x. p (f x)) xs
any-map p f [] = refl
any-map p f (x ∷ xs) = ap (λ t. p (f x) || t) (any-map p f xs)

-- ---- lists that grow

pub length-push : {X : Type 0} (xs : List X) (x : X) → length (xs ++ (x ∷ [])) ≡ length xs + 1
length-push xs x = length-append xs (x ∷ [])

-- what holds of each two elements, and of each with a new one, holds of each two of the longer list
push-by : {X : Type 0} (P : X → X → Type 0) (xs : List X) (x d : X) (i j : ℕ)
    → (i < j → j < length xs → P (get_or xs i d) (get_or xs j d)) → (i < length xs → P (get_or xs i d) x)
    → i < j → (j < length xs) ⊎ (j ≡ length xs) → P (get_or (xs ++ (x ∷ [])) i d) (get_or (xs ++ (x ∷ [])) j d)
push-by P xs x d i j pairs new before (inl h) = grind (arith, get_or_append_left)
push-by P xs x d i j pairs new before (inr h) = grind (arith, get_or_append_left, get_or-append_seam)

pub push-pairs : {X : Type 0} (P : X → X → Type 0) (xs : List X) (x d : X)
    → ((i j : ℕ) → i < j → j < length xs → P (get_or xs i d) (get_or xs j d)) → ((i : ℕ) → i < length xs → P (get_or xs i d) x)
    → (i j : ℕ) → i < j → j < length (xs ++ (x ∷ [])) → P (get_or (xs ++ (x ∷ [])) i d) (get_or (xs ++ (x ∷ [])) j d)
push-pairs P xs x d pairs new i j before within =
    let size = length-push xs x in
    push-by P xs x d i j (pairs i j) (new i) before (elim (cases_lt j (length xs)) as (λ _. (j < length xs) ⊎ (j ≡ length xs)) [ inl h ↦ inl h | inr h ↦ inr (omega arith) ])
