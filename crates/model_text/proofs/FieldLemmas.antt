-- The first field of bytes.
use Rattle.std.proofs.Common.{◌≡◌, ℕ, ◌+◌, suc, Bool, true, false, cond, not, List, [], ◌∷◌, take, drop, refl, sym, ap, ◌∙◌, arith}
use Rattle.std.specs.List.{prefix_len}
use Rattle.model_text.specs.Fields.{is_blank, fields_of, joined, skipped, word, behind_word}

abbrev pub is_word : ℕ → Bool
is_word b = not (is_blank b)

drop-more : (n : ℕ) (b : ℕ) (bs : List ℕ) → drop (1 + n) (b ∷ bs) ≡ drop n bs
drop-more n b bs = ap (λ k. drop k (b ∷ bs)) (let e : 1 + n ≡ suc n = omega arith in e)

take-more : (n : ℕ) (b : ℕ) (bs : List ℕ) → take (1 + n) (b ∷ bs) ≡ b ∷ take n bs
take-more n b bs = ap (λ k. take k (b ∷ bs)) (let e : 1 + n ≡ suc n = omega arith in e)

pub skipped-is : (xs : List ℕ) → drop (prefix_len is_blank xs) xs ≡ skipped xs
unfolding skipped
skipped-is [] = refl
skipped-is (b ∷ bs) =
    elim (is_blank b) as (λ t. drop (cond t (1 + prefix_len is_blank bs) 0) (b ∷ bs) ≡ cond t (skipped bs) (b ∷ bs))
    [ true ↦ drop-more (prefix_len is_blank bs) b bs ∙ skipped-is bs | false ↦ refl ]

pub word-is : (xs : List ℕ) → take (prefix_len is_word xs) xs ≡ word xs
unfolding word
word-is [] = refl
word-is (b ∷ bs) =
    elim (is_blank b) as (λ t. take (cond (not t) (1 + prefix_len is_word bs) 0) (b ∷ bs) ≡ cond t [] (b ∷ word bs))
    [ true ↦ refl | false ↦ take-more (prefix_len is_word bs) b bs ∙ ap (λ l. b ∷ l) (word-is bs) ]

pub behind_word-is : (xs : List ℕ) → drop (prefix_len is_word xs) xs ≡ behind_word xs
unfolding behind_word
behind_word-is [] = refl
behind_word-is (b ∷ bs) =
    elim (is_blank b) as (λ t. drop (cond (not t) (1 + prefix_len is_word bs) 0) (b ∷ bs) ≡ cond t (b ∷ bs) (behind_word bs))
    [ true ↦ refl | false ↦ drop-more (prefix_len is_word bs) b bs ∙ behind_word-is bs ]

skipped_by : (b : ℕ) (bs : List ℕ) (t : Bool) → is_blank b ≡ t → fields_of bs ≡ fields_of (skipped bs) → fields_of (b ∷ bs) ≡ fields_of (skipped (b ∷ bs))
unfolding fields_of skipped
skipped_by b bs true e ih = ap (λ s. cond s (fields_of bs) (joined b bs (fields_of bs))) e ∙ ih ∙ ap (λ s. fields_of (cond s (skipped bs) (b ∷ bs))) (sym e)
skipped_by b bs false e ih = sym (ap (λ s. fields_of (cond s (skipped bs) (b ∷ bs))) e)

-- blanks in front don't count
pub fields-skipped : (xs : List ℕ) → fields_of xs ≡ fields_of (skipped xs)
unfolding fields_of skipped
fields-skipped [] = refl
fields-skipped (b ∷ bs) = skipped_by b bs (is_blank b) refl (fields-skipped bs)

-- the fields of bytes that begin with no blank
fields-begun : (b : ℕ) (bs : List ℕ) → is_blank b ≡ false → fields_of (b ∷ bs) ≡ joined b bs (fields_of bs)
unfolding fields_of
fields-begun b bs e = ap (λ s. cond s (fields_of bs) (joined b bs (fields_of bs))) e

word-begun : (b : ℕ) (bs : List ℕ) → is_blank b ≡ false → word (b ∷ bs) ≡ b ∷ word bs
unfolding word
word-begun b bs e = ap (λ s. cond s [] (b ∷ word bs)) e

behind-begun : (b : ℕ) (bs : List ℕ) → is_blank b ≡ false → behind_word (b ∷ bs) ≡ behind_word bs
unfolding behind_word
behind-begun b bs e = ap (λ s. cond s (b ∷ bs) (behind_word bs)) e

by_next : (b d : ℕ) (ds : List ℕ) (t : Bool) → is_blank d ≡ t → (is_blank d ≡ false → fields_of (d ∷ ds) ≡ word (d ∷ ds) ∷ fields_of (behind_word (d ∷ ds)))
    → joined b (d ∷ ds) (fields_of (d ∷ ds)) ≡ (b ∷ word (d ∷ ds)) ∷ fields_of (behind_word (d ∷ ds))
unfolding word behind_word
by_next b d ds true f ih = grind arith
by_next b d ds false f ih = grind arith

-- a line that begins with no blank: its word, and the fields after it
pub fields-word : (b : ℕ) (bs : List ℕ) → is_blank b ≡ false → fields_of (b ∷ bs) ≡ word (b ∷ bs) ∷ fields_of (behind_word (b ∷ bs))
unfolding fields_of word behind_word
fields-word b [] e = fields-begun b [] e ∙ ap (λ w. w ∷ []) (sym (word-begun b [] e)) ∙ ap (λ r. word (b ∷ []) ∷ fields_of r) (sym (behind-begun b [] e))
fields-word b (d ∷ ds) e =
    fields-begun b (d ∷ ds) e ∙ by_next b d ds (is_blank d) refl (fields-word d ds)
    ∙ ap (λ w. w ∷ fields_of (behind_word (d ∷ ds))) (sym (word-begun b (d ∷ ds) e)) ∙ ap (λ r. word (b ∷ d ∷ ds) ∷ fields_of r) (sym (behind-begun b (d ∷ ds) e))

skipped_word_by : (d : ℕ) (ds : List ℕ) (b : ℕ) (bs : List ℕ) (t : Bool) → is_blank d ≡ t → cond (is_blank d) (skipped ds) (d ∷ ds) ≡ b ∷ bs → (skipped ds ≡ b ∷ bs → is_blank b ≡ false) → is_blank b ≡ false
skipped_word_by d ds b bs true f e ih = ih (ap (λ s. cond s (skipped ds) (d ∷ ds)) (sym f) ∙ e)
skipped_word_by d ds b bs false f e ih = let same : d ∷ ds ≡ b ∷ bs = ap (λ s. cond s (skipped ds) (d ∷ ds)) (sym f) ∙ e in let h : d ≡ b = cc in ap is_blank (sym h) ∙ f

pub skipped-word : (xs : List ℕ) (b : ℕ) (bs : List ℕ) → skipped xs ≡ b ∷ bs → is_blank b ≡ false
unfolding skipped
skipped-word [] b bs e = cc
skipped-word (d ∷ ds) b bs e = skipped_word_by d ds b bs (is_blank d) refl e (skipped-word ds b bs)

nothing : (xs ys : List ℕ) → skipped xs ≡ ys → word ys ≡ [] → fields_of ys ≡ []
unfolding fields_of
nothing xs [] e h = refl
nothing xs (b ∷ bs) e h = let w = word-begun b bs (skipped-word xs b bs e) in cc

something : (xs ys : List ℕ) → skipped xs ≡ ys → (word ys ≡ [] → ⊥) → fields_of ys ≡ word ys ∷ fields_of (behind_word ys)
unfolding word
something xs [] e h = absurd (h refl)
something xs (b ∷ bs) e h = fields-word b bs (skipped-word xs b bs e)

-- the first field, or none
pub fields-none : (xs : List ℕ) → word (skipped xs) ≡ [] → fields_of xs ≡ []
fields-none xs e = fields-skipped xs ∙ nothing xs (skipped xs) refl e

pub fields-some : (xs : List ℕ) → (word (skipped xs) ≡ [] → ⊥) → fields_of xs ≡ word (skipped xs) ∷ fields_of (behind_word (skipped xs))
fields-some xs e = fields-skipped xs ∙ something xs (skipped xs) refl e
