-- Tests of names and of ends.
use Rattle.std.proofs.Common.{◌≡◌, ℕ, ◌+◌, Bool, cond, not, nat_lt, map, Some, None, ◌&&◌, ◌==◌, refl, sym, ap, ap₂, List, [], ◌∷◌, ◌∙◌}
use Rattle.std.proofs.lemmas.Bool.Decides.{same_from_decides, Decides-eqb, Decides-like}
use Rattle.std.specs.List.{list_any, position, prefix_len}
use Rattle.std.proofs.lemmas.List.{length-map}
use Rattle.evac_law.specs.declared.name.NodeName.{NodeName}
use Rattle.evac_law.specs.declared.name.Kind.{Kind}
use Rattle.evac_law.specs.declared.name.Kind.TheVariants.{Work, Hall, Stair, Lobby, Exit}
use Rattle.evac_law.specs.contracts.name.NodeNamePartialEq.TheImpl.{eq-value}
use Rattle.model_text.specs.Taken.{same_name, same_kind}

abbrev make-name : Kind → ℕ → ℕ → NodeName
make-name k n f = record { kind = k; number = n; floor = f }

pub test-swap : (a b : ℕ) → (a == b) ≡ (b == a)
test-swap a b = same_from_decides (a == b) (b == a) (Decides-eqb a b) (Decides-like (b == a) (λ e. sym e) (λ e. sym e) (Decides-eqb b a))

swapped : (a b c d : ℕ) → (a == c && b == d) ≡ (c == a && d == b)
swapped a b c d = ap₂ (λ x y. x && y) (test-swap a c) (test-swap b d)

kinds-test : (k l : Kind) (a b c d : ℕ) → eq-value.it (make-name k a b) (make-name l c d) ≡ same_kind l k && (a == c && b == d)
kinds-test Work Work a b c d = refl
kinds-test Hall Hall a b c d = refl
kinds-test Stair Stair a b c d = refl
kinds-test Lobby Lobby a b c d = refl
kinds-test Exit Exit a b c d = refl
kinds-test k l a b c d = refl

-- the test of the code tells whether two names are the same
pub name-test : (a b : NodeName) → eq-value.it a b ≡ same_name b a
name-test a b = kinds-test a.kind b.kind a.number a.floor b.number b.floor ∙ ap (λ y. same_kind b.kind a.kind && y) (swapped a.number a.floor b.number b.floor)

-- tests that agree find the same place, and the same answer
pub position-same : {X : Type 0} (p q : X → Bool) (xs : List X) → ((x : X) → p x ≡ q x) → position p xs ≡ position q xs
position-same {X = X} p q xs h = ap (λ (f : X → Bool). position f xs) (λ i x. h x i)

pub any-same : {X : Type 0} (p q : X → Bool) (xs : List X) → ((x : X) → p x ≡ q x) → list_any p xs ≡ list_any q xs
any-same {X = X} p q xs h = ap (λ (f : X → Bool). list_any f xs) (λ i x. h x i)

prefix-map : {X Y : Type 0} (p : Y → Bool) (f : X → Y) (xs : List X) → prefix_len p (map f xs) ≡ prefix_len (λ x. p (f x)) xs
prefix-map p f [] = refl
prefix-map p f (x ∷ xs) = ap (λ n. cond (p (f x)) (1 + n) 0) (prefix-map p f xs)

-- the place of what passes among the images
pub position-map : {X Y : Type 0} (p : Y → Bool) (f : X → Y) (xs : List X) → position p (map f xs) ≡ position (λ x. p (f x)) xs
position-map p f xs = ap₂ (λ n l. cond (nat_lt n l) (Some n) None) (prefix-map (λ y. not (p y)) f xs) (length-map xs f)
