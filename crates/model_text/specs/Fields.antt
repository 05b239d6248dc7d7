-- The fields of a line, its longest runs of bytes that aren't blanks, and the text after some of them.
use Rattle.std.specs.Prelude.{ℕ, Bool, ◌||◌, ◌==◌, if◌then◌else◌, List, [], ◌∷◌}

-- a blank is a space or a tab
abbrev pub is_blank : ℕ → Bool
is_blank b = (b == 32) || (b == 9)

-- a byte before the first of these fields
abbrev pub onto_first : ℕ → List (List ℕ) → List (List ℕ)
onto_first b [] = (b ∷ []) ∷ []
onto_first b (f ∷ fs) = (b ∷ f) ∷ fs

-- a byte that is no blank, before bytes with these fields
abbrev pub joined : ℕ → List ℕ → List (List ℕ) → List (List ℕ)
joined b [] fs = (b ∷ []) ∷ fs
joined b (d ∷ bs) fs = if is_blank d then ((b ∷ []) ∷ fs) else onto_first b fs

-- the fields of bytes, in order
unfoldable pub fields_of : List ℕ → List (List ℕ)
fields_of [] = []
fields_of (b ∷ bs) = if is_blank b then fields_of bs else joined b bs (fields_of bs)

-- what comes after the blanks in front
unfoldable pub skipped : List ℕ → List ℕ
skipped [] = []
skipped (b ∷ bs) = if is_blank b then skipped bs else (b ∷ bs)

-- the bytes up to a blank, and those from it on
unfoldable pub word : List ℕ → List ℕ
word [] = []
word (b ∷ bs) = if is_blank b then [] else (b ∷ word bs)

unfoldable pub behind_word : List ℕ → List ℕ
behind_word [] = []
behind_word (b ∷ bs) = if is_blank b then (b ∷ bs) else behind_word bs

-- a byte before bytes without blanks at their end: a blank stays only before something
abbrev pub onto_trimmed : ℕ → List ℕ → List ℕ
onto_trimmed b [] = if is_blank b then [] else (b ∷ [])
onto_trimmed b (d ∷ ds) = b ∷ d ∷ ds

-- the bytes without the blanks at their end
unfoldable pub trimmed : List ℕ → List ℕ
trimmed [] = []
trimmed (b ∷ bs) = onto_trimmed b (trimmed bs)

-- what comes after the first field
abbrev pub behind_field : List ℕ → List ℕ
behind_field bytes = behind_word (skipped bytes)

-- the text of bytes: all of them but the blanks in front and at the end
abbrev pub text_of : List ℕ → List ℕ
text_of bytes = trimmed (skipped bytes)
