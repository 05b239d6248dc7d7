-- How much of a line comes before a part of it, and that the part has no LF where the line has none.
use Rattle.std.proofs.Common.{◌≡◌, ℕ, ◌+◌, ◌<◌, ◌≤◌, Bool, true, false, cond, ◌==◌, List, [], ◌∷◌, length, Ok, refl, sym, ap, subst, ◌∙◌, arith}
use Rattle.std.specs.List.{list_any}
use Rattle.std.proofs.lemmas.Bool.{cond_both, or_parts}
use Rattle.model_text.specs.Fields.{is_blank, fields_of, skipped, word, behind_word, onto_trimmed, trimmed, behind_field, text_of}
use Rattle.model_text.specs.Plain.{IsContentWithin, IsTextBehind}
use Rattle.model_text.proofs.FieldLemmas.{fields-none, fields-skipped, fields-some, skipped-word}

abbrev is_lf : ℕ → Bool
is_lf b = b == 10

-- bytes have a part after at least so many others of them
pub record HasBehind (before : ℕ) (bytes part : List ℕ) : Type 0 where
  pub fits : before + length part ≤ length bytes
  pub one_line : list_any is_lf bytes ≡ false → list_any is_lf part ≡ false

all-behind : (xs : List ℕ) → HasBehind 0 xs xs
all-behind xs = record { fits = omega arith; one_line = λ none. none }

none-behind : (xs : List ℕ) → HasBehind 0 xs []
none-behind xs = record { fits = omega arith; one_line = λ none. refl }

pub further-behind : (j k : ℕ) (xs ys zs : List ℕ) → HasBehind j xs ys → HasBehind k ys zs → HasBehind (j + k) xs zs
further-behind j k xs ys zs a b = record { fits = (let f = a.fits in let g = b.fits in omega arith); one_line = λ none. b.one_line (a.one_line none) }

less-behind : (j k : ℕ) (xs ys : List ℕ) → j ≤ k → HasBehind k xs ys → HasBehind j xs ys
less-behind j k xs ys less a = record { fits = (let f = a.fits in omega arith); one_line = a.one_line }

-- one more byte in front
front-behind : (k b : ℕ) (xs ys : List ℕ) → HasBehind k xs ys → HasBehind (k + 1) (b ∷ xs) ys
front-behind k b xs ys a = record { fits = (let f = a.fits in omega arith); one_line = λ none. a.one_line (or_parts (is_lf b) (list_any is_lf xs) none).1 }

-- the same byte in front of the part
front-kept : (b : ℕ) (xs ys : List ℕ) → HasBehind 0 xs ys → HasBehind 0 (b ∷ xs) (b ∷ ys)
front-kept b xs ys a = record {
  fits = let f = a.fits in omega arith;
  one_line = λ none. let parts = or_parts (is_lf b) (list_any is_lf xs) none in rw (parts.0) (a.one_line parts.1);
}

skipped-behind : (xs : List ℕ) → HasBehind 0 xs (skipped xs)
unfolding skipped
skipped-behind [] = all-behind []
skipped-behind (b ∷ bs) =
    cond_both (is_blank b) (skipped bs) (b ∷ bs) (HasBehind 0 (b ∷ bs))
    (λ _. less-behind 0 1 (b ∷ bs) (skipped bs) (omega arith) (front-behind 0 b bs (skipped bs) (skipped-behind bs))) (λ _. all-behind (b ∷ bs))

-- what comes after a word
word-behind : (xs : List ℕ) → HasBehind (length (word xs)) xs (behind_word xs)
unfolding word behind_word
word-behind [] = all-behind []
word-behind (b ∷ bs) =
    elim (is_blank b) as (λ t. HasBehind (length (cond t [] (b ∷ word bs))) (b ∷ bs) (cond t (b ∷ bs) (behind_word bs))) [
      | true ↦ all-behind (b ∷ bs)
      | false ↦ less-behind (length (b ∷ word bs)) (length (word bs) + 1) (b ∷ bs) (behind_word bs) (omega arith) (front-behind (length (word bs)) b bs (behind_word bs) (word-behind bs))
    ]

skipped-blank : (b : ℕ) (bs : List ℕ) → is_blank b ≡ true → skipped (b ∷ bs) ≡ skipped bs
unfolding skipped
skipped-blank b bs e = ap (λ t. cond t (skipped bs) (b ∷ bs)) e

-- a blank is between a word and what isn't blank after it
gap-behind : (xs : List ℕ) → 0 < length (skipped (behind_word xs)) → HasBehind 1 (behind_word xs) (skipped (behind_word xs))
unfolding skipped behind_word
gap-behind [] some = absurd (omega arith)
gap-behind (b ∷ bs) some =
    cond_both (is_blank b) (b ∷ bs) (behind_word bs) (λ l. 0 < length (skipped l) → HasBehind 1 l (skipped l))
    (λ blank more. rw (skipped-blank b bs blank) (front-behind 0 b bs (skipped bs) (skipped-behind bs))) (λ _. gap-behind bs) some

trimmed-behind : (xs : List ℕ) → HasBehind 0 xs (trimmed xs)
unfolding trimmed
trimmed-behind [] = all-behind []
trimmed-behind (b ∷ bs) = onto b bs (trimmed bs) (trimmed-behind bs)
  where
    onto : (b : ℕ) (bs ys : List ℕ) → HasBehind 0 bs ys → HasBehind 0 (b ∷ bs) (onto_trimmed b ys)
    onto b bs [] a = cond_both (is_blank b) [] (b ∷ []) (HasBehind 0 (b ∷ bs)) (λ _. none-behind (b ∷ bs)) (λ _. front-kept b bs [] a)
    onto b bs (d ∷ ds) a = front-kept b bs (d ∷ ds) a

-- ---- fields

-- the first field is the first word
first-word : (xs w : List ℕ) (more : List (List ℕ)) → fields_of xs ≡ w ∷ more → word (skipped xs) ≡ w
first-word xs w more e = by-word (word (skipped xs)) refl
  where
    by-word : (v : List ℕ) → word (skipped xs) ≡ v → word (skipped xs) ≡ w
    by-word [] is = let none = fields-none xs is in cc
    by-word (b ∷ bs) is = let some = fields-some xs (λ none. cc) in cc

-- what comes after the first field, where the blanks in front are passed over, and where they aren't
pub field-behind : (xs w : List ℕ) (more : List (List ℕ)) → fields_of xs ≡ w ∷ more → HasBehind (length w) (skipped xs) (behind_field xs)
field-behind xs w more e = let P : List ℕ → Type 0 = λ v. HasBehind (length v) (skipped xs) (behind_field xs) in subst P (first-word xs w more e) (word-behind (skipped xs))

pub line-behind : (xs w : List ℕ) (more : List (List ℕ)) → fields_of xs ≡ w ∷ more → HasBehind (length w) xs (behind_field xs)
line-behind xs w more e = grind (arith, less-behind, further-behind, skipped-behind, field-behind)

-- fields after a word come after a blank
pub fields-behind : (ys f : List ℕ) (more : List (List ℕ)) → fields_of (behind_word ys) ≡ f ∷ more → HasBehind 1 (behind_word ys) (skipped (behind_word ys))
unfolding fields_of
fields-behind ys f more e = gap-behind ys (some (skipped (behind_word ys)) refl)
  where
    some : (zs : List ℕ) → skipped (behind_word ys) ≡ zs → 0 < length zs
    some [] none = let no : fields_of [] ≡ f ∷ more = sym (fields-skipped (behind_word ys) ∙ ap fields_of none) ∙ e in cc
    some (b ∷ bs) is = omega arith

-- ---- texts

-- no blank is in front of a text, nor at its end
skipped-kept : (xs ys : List ℕ) → skipped xs ≡ ys → skipped (trimmed ys) ≡ trimmed ys
unfolding skipped trimmed
skipped-kept xs [] is = refl
skipped-kept xs (b ∷ bs) is = onto b (trimmed bs) (skipped-word xs b bs is)
  where
    onto : (b : ℕ) (ys : List ℕ) → is_blank b ≡ false → skipped (onto_trimmed b ys) ≡ onto_trimmed b ys
    onto b [] e = rw (e, e) refl
    onto b (d ∷ ds) e = ap (λ t. cond t (skipped (d ∷ ds)) (b ∷ d ∷ ds)) e

trimmed-twice : (xs : List ℕ) → trimmed (trimmed xs) ≡ trimmed xs
unfolding trimmed
trimmed-twice [] = refl
trimmed-twice (b ∷ bs) = onto b (trimmed bs) (trimmed-twice bs)
  where
    onto : (b : ℕ) (ys : List ℕ) → trimmed ys ≡ ys → trimmed (onto_trimmed b ys) ≡ onto_trimmed b ys
    onto b [] e = by-blank (is_blank b) refl
      where
        by-blank : (t : Bool) → is_blank b ≡ t → trimmed (cond t [] (b ∷ [])) ≡ cond t [] (b ∷ [])
        by-blank true is = refl
        by-blank false is = ap (λ t. cond t [] (b ∷ [])) is
    onto b (d ∷ ds) e = ap (onto_trimmed b) e

text-whole : (xs : List ℕ) → text_of (text_of xs) ≡ text_of xs
text-whole xs = ap trimmed (skipped-kept xs (skipped xs) refl) ∙ trimmed-twice (skipped xs)

pub less-text : (limit j k : ℕ) (text : List ℕ) → j ≤ k → IsTextBehind limit k text → IsTextBehind limit j text
less-text limit j k text less is = record { some = is.some; whole = is.whole; one_line = is.one_line; fits = let f = is.fits in omega arith }

-- the text after a word, with so many bytes before it, the blank after the word not counted
pub text-behind : (limit before : ℕ) (line ys : List ℕ) → IsContentWithin limit (Ok line) → HasBehind before line (behind_word ys) → 0 < length (text_of (behind_word ys))
    → IsTextBehind limit (before + 1) (text_of (behind_word ys))
text-behind limit before line ys content has some =
    let zs : List ℕ = skipped (behind_word ys) in
    let trim = trimmed-behind zs in
    let begun : 0 < length zs = let f = trim.fits in omega arith in
    let back = further-behind before 1 line (behind_word ys) zs has (gap-behind ys begun) in
    let all = further-behind (before + 1) 0 line zs (trimmed zs) back trim in
    record {
      some = some;
      whole = text-whole (behind_word ys);
      one_line = all.one_line content.1;
      fits = let f = all.fits in let g = content.0 in omega arith;
    }
