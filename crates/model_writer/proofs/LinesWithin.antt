-- The lines of an input: their contents keep the limit, and no LF is among their bytes.
use Rattle.std.proofs.Common.{◌≡◌, ℕ, ◌+◌, Bool, true, false, ◌||◌, cond, ◌==◌, nat_lt, List, [], ◌∷◌, length, Ok, Err, refl, ap, ◌∙◌}
use Rattle.std.specs.List.{All, list_any}
use Rattle.std.proofs.lemmas.Bool.{ltb-false, or_parts}
use Rattle.std.proofs.lemmas.List.Elements.{All-cons, All-head, All-nil, All-tail}
use Rattle.evac_law.specs.declared.code.Code.TheVariants.{LineTooLong, InputTooLong}
use Rattle.line_io.specs.Line.{Line, content, input_limit, is_lf, line_limit, line_of, lines_after, lines_of, onto_first, pieces, then_lines, without_last}
use Rattle.model_text.specs.Plain.{IsContentWithin}

-- ---- the pieces of an input

-- no LF is among some bytes but the last
abbrev IsOneLine : List ℕ → Type 0
IsOneLine piece = list_any is_lf (without_last 10 piece) ≡ false

one-byte : (b : ℕ) (t : Bool) → is_lf b ≡ t → list_any is_lf (cond t [] (b ∷ [])) ≡ false
one-byte b true e = refl
one-byte b false e = ap (λ t. t || false) e

byte-line : (b : ℕ) → IsOneLine (b ∷ [])
unfolding without_last
byte-line b = one-byte b (is_lf b) refl

longer-line : (b : ℕ) (piece : List ℕ) → is_lf b ≡ false → IsOneLine piece → IsOneLine (b ∷ piece)
unfolding without_last
longer-line b [] e is = one-byte b (is_lf b) refl
longer-line b (c ∷ cs) e is = ap (λ t. t || list_any is_lf (without_last 10 (c ∷ cs))) e ∙ is

onto-lines : (b : ℕ) (ps : List (List ℕ)) → is_lf b ≡ false → All IsOneLine ps → All IsOneLine (onto_first b ps)
onto-lines b [] e each = All-cons IsOneLine (b ∷ []) [] (byte-line b) each
onto-lines b (p ∷ ps) e each = All-cons IsOneLine (b ∷ p) ps (longer-line b p e (All-head IsOneLine p ps each)) (All-tail IsOneLine p ps each)

lines-by : (b : ℕ) (ps : List (List ℕ)) (t : Bool) → is_lf b ≡ t → All IsOneLine ps → All IsOneLine (cond t ((b ∷ []) ∷ ps) (onto_first b ps))
lines-by b ps true e each = All-cons IsOneLine (b ∷ []) ps (byte-line b) each
lines-by b ps false e each = onto-lines b ps e each

pieces-lines : (bytes : List ℕ) → All IsOneLine (pieces bytes)
unfolding pieces
pieces-lines [] = All-nil IsOneLine
pieces-lines (b ∷ bs) = lines-by b (pieces bs) (is_lf b) refl (pieces-lines bs)

-- ---- their contents

none-among : (c : ℕ) (xs : List ℕ) → list_any is_lf xs ≡ false → list_any is_lf (without_last c xs) ≡ false
unfolding without_last
none-among c [] h = refl
none-among c (b ∷ []) h = last-by (b == c)
  where
    last-by : (t : Bool) → list_any is_lf (cond t [] (b ∷ [])) ≡ false
    last-by true = refl
    last-by false = h
none-among c (b ∷ d ∷ bs) h =
    let parts = or_parts (is_lf b) (list_any is_lf (d ∷ bs)) h in
    ap (λ t. t || list_any is_lf (without_last c (d ∷ bs))) parts.0 ∙ none-among c (d ∷ bs) parts.1

line-by : (piece : List ℕ) (t u : Bool) → nat_lt line_limit (length (content piece)) ≡ t → IsOneLine piece
    → IsContentWithin line_limit (cond t (Err LineTooLong) (cond u (Err InputTooLong) (Ok (content piece))))
line-by piece true u e is = tt
line-by piece false true e is = tt
line-by piece false false e is = (ltb-false line_limit (length (content piece)) e, none-among 13 (without_last 10 piece) is)

line-within : (end : ℕ) (piece : List ℕ) → IsOneLine piece → IsContentWithin line_limit (line_of end piece)
line-within end piece is = line-by piece (nat_lt line_limit (length (content piece))) (nat_lt input_limit end) refl is

then-within : (line : Line) (lines : List Line) → IsContentWithin line_limit line → All (IsContentWithin line_limit) lines → All (IsContentWithin line_limit) (then_lines line lines)
then-within (Ok text) lines is each = All-cons (IsContentWithin line_limit) (Ok text) lines is each
then-within (Err code) lines is each = All-cons (IsContentWithin line_limit) (Err code) [] is (All-nil (IsContentWithin line_limit))

after-within : (before : ℕ) (ps : List (List ℕ)) → All IsOneLine ps → All (IsContentWithin line_limit) (lines_after before ps)
unfolding lines_after
after-within before [] each = All-nil (IsContentWithin line_limit)
after-within before (p ∷ ps) each =
    then-within (line_of (before + length p) p) (lines_after (before + length p) ps) (line-within (before + length p) p (All-head IsOneLine p ps each))
    (after-within (before + length p) ps (All-tail IsOneLine p ps each))

pub lines-within : (bytes : List ℕ) → All (IsContentWithin line_limit) (lines_of bytes)
lines-within bytes = after-within 0 (pieces bytes) (pieces-lines bytes)
