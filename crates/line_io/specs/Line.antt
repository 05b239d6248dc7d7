-- The lines of an input, by its bytes alone. LF is the byte 10 and CR the byte 13.
use Rattle.std.specs.Prelude.{◌≡◌, ℕ, ◌+◌, Bool, ◌==◌, nat_lt, if◌then◌else◌, List, [], ◌∷◌, length, map, Result, Ok, Err}
use Rattle.evac_law.specs.declared.code.Code.{Code}
use Rattle.evac_law.specs.declared.code.Code.TheVariants.{LineTooLong, InputTooLong}

-- the most bytes of a line without its end
unfoldable pub line_limit : ℕ
line_limit = 200

-- the most bytes of an input
unfoldable pub input_limit : ℕ
input_limit = 50000000

-- a byte is LF
abbrev pub is_lf : ℕ → Bool
is_lf b = b == 10

-- a byte before the first of these parts
abbrev pub onto_first : ℕ → List (List ℕ) → List (List ℕ)
onto_first b [] = (b ∷ []) ∷ []
onto_first b (p ∷ ps) = (b ∷ p) ∷ ps

-- the bytes cut after each LF: each part is a line with its end
unfoldable pub pieces : List ℕ → List (List ℕ)
pieces [] = []
pieces (b ∷ bs) = if is_lf b then (b ∷ []) ∷ pieces bs else onto_first b (pieces bs)

-- these bytes are one line with its end
abbrev pub IsPiece : List ℕ → Type 0
IsPiece piece = pieces piece ≡ piece ∷ []

-- the bytes without the last, where that is c
unfoldable pub without_last : ℕ → List ℕ → List ℕ
without_last c [] = []
without_last c (b ∷ []) = if b == c then [] else (b ∷ [])
without_last c (b ∷ d ∷ bs) = b ∷ without_last c (d ∷ bs)

-- a line without its LF and without one CR that then stands last
abbrev pub content : List ℕ → List ℕ
content piece = without_last 13 (without_last 10 piece)

-- a line: what it says, or the code of its fault
abbrev pub Line : Type 0
Line = Result (List ℕ) Code

-- the line that a piece is, where the input up to its end has so many bytes
abbrev pub line_of : ℕ → List ℕ → Line
line_of end piece =
    if nat_lt line_limit (length (content piece)) then Err LineTooLong
    else if nat_lt input_limit end then Err InputTooLong
    else Ok (content piece)

-- a line and those after it; nothing follows a fault
abbrev pub then_lines : Line → List Line → List Line
then_lines (Ok text) lines = Ok text ∷ lines
then_lines (Err code) lines = Err code ∷ []

-- the lines of these pieces, after so many bytes of the input
unfoldable pub lines_after : ℕ → List (List ℕ) → List Line
lines_after before [] = []
lines_after before (p ∷ ps) = then_lines (line_of (before + length p) p) (lines_after (before + length p) ps)

-- the lines of an input, up to the first with a fault
abbrev pub lines_of : List ℕ → List Line
lines_of bytes = lines_after 0 (pieces bytes)

-- the lines that say these texts, none with a fault
abbrev pub text_lines : List (List ℕ) → List Line
text_lines texts = map (λ text. Ok text) texts

-- a byte before a whole part: it is in it where more of it follows, or where it is LF
abbrev pub onto_whole : ℕ → List ℕ → List ℕ
onto_whole b [] = if is_lf b then (b ∷ []) else []
onto_whole b (c ∷ cs) = b ∷ c ∷ cs

-- the bytes up to and with the last LF, none where there is no LF
unfoldable pub whole_part : List ℕ → List ℕ
whole_part [] = []
whole_part (b ∷ bs) = onto_whole b (whole_part bs)

-- these bytes are none, or end in LF: no line in them is unfinished
abbrev pub IsWhole : List ℕ → Type 0
IsWhole bytes = whole_part bytes ≡ bytes
