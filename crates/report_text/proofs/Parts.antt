-- Texts of parts: the same parts spelled otherwise, and one part more.
use Rattle.std.proofs.Common.{◌≡◌, List, [], ◌∷◌, ◌++◌, refl, ap, ◌∙◌, append-nil}
use Rattle.std.specs.List.{flat_map}
use Rattle.std.proofs.lemmas.Grind.{flat_map-append}

pub parts-same : {X Y : Type 0} (f g : X → List Y) (xs : List X) → ((x : X) → f x ≡ g x) → flat_map f xs ≡ flat_map g xs
parts-same f g [] h = refl
parts-same f g (x ∷ xs) h = ap (λ l. l ++ flat_map f xs) (h x) ∙ ap (λ l. g x ++ l) (parts-same f g xs h)

-- one part after others
pub parts-one : {X Y : Type 0} (f : X → List Y) (xs : List X) (x : X) → flat_map f (xs ++ x ∷ []) ≡ flat_map f xs ++ f x
parts-one f xs x = flat_map-append f xs (x ∷ []) ∙ ap (λ l. flat_map f xs ++ l) (append-nil (f x))

pub parts-nothing : {X Y : Type 0} (xs : List X) → flat_map {X = X} {A = Y} (λ _. []) xs ≡ []
parts-nothing [] = refl
parts-nothing (x ∷ xs) = parts-nothing xs
