-- Bytes without the blanks at their end, seen from the end.
use Rattle.std.proofs.Common.{◌≡◌, ℕ, ◌-◌, ◌<◌, ◌≤◌, true, false, cond, List, [], ◌∷◌, ◌++◌, length, take, get_or, refl, sym, ap, ◌∙◌, arith}
use Rattle.std.proofs.Math.Seq.{take-suc}
use Rattle.model_text.specs.Fields.{is_blank, onto_trimmed, trimmed}

trimmed-blank : (xs : List ℕ) (b : ℕ) → is_blank b ≡ true → trimmed (xs ++ (b ∷ [])) ≡ trimmed xs
unfolding trimmed
trimmed-blank [] b e = ap (λ t. cond t [] (b ∷ [])) e
trimmed-blank (x ∷ xs) b e = ap (onto_trimmed x) (trimmed-blank xs b e)

onto-some : (x b : ℕ) (xs : List ℕ) → onto_trimmed x (xs ++ (b ∷ [])) ≡ x ∷ (xs ++ (b ∷ []))
onto-some x b [] = refl
onto-some x b (y ∷ ys) = refl

trimmed-kept : (xs : List ℕ) (b : ℕ) → is_blank b ≡ false → trimmed (xs ++ (b ∷ [])) ≡ xs ++ (b ∷ [])
unfolding trimmed
trimmed-kept [] b e = ap (λ t. cond t [] (b ∷ [])) e
trimmed-kept (x ∷ xs) b e = ap (onto_trimmed x) (trimmed-kept xs b e) ∙ onto-some x b xs

-- the first n bytes are those before the last of them, and it
take-last : (xs : List ℕ) (n : ℕ) → 0 < n → n ≤ length xs → take n xs ≡ take (n - 1) xs ++ (get_or xs (n - 1) 0 ∷ [])
take-last xs n some within = grind (arith, take-suc)

pub trim-one : (xs : List ℕ) (n : ℕ) → 0 < n → n ≤ length xs → is_blank (get_or xs (n - 1) 0) ≡ true → trimmed (take (n - 1) xs) ≡ trimmed (take n xs)
trim-one xs n some within blank = sym (ap trimmed (take-last xs n some within) ∙ trimmed-blank (take (n - 1) xs) _ blank)

pub trim-none : (xs : List ℕ) (n : ℕ) → 0 < n → n ≤ length xs → is_blank (get_or xs (n - 1) 0) ≡ false → trimmed (take n xs) ≡ take n xs
trim-none xs n some within kept = grind (arith, take-last, trimmed-kept)

pub trim-empty : (xs : List ℕ) (n : ℕ) → n ≤ 0 → trimmed (take n xs) ≡ take n xs
unfolding trimmed
trim-empty xs n none = let e : n ≡ 0 = omega arith in ap (λ k. trimmed (take k xs)) e ∙ ap (λ k. take k xs) (sym e)
