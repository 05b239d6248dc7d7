-- How a line of output is spelled: fields with one space between them, and a LF, which is the byte 10.
use Rattle.std.specs.Prelude.{ℕ, List, [], ◌∷◌, ◌++◌, fold}

-- the fields, each but the first after one space, which is the byte 32
abbrev pub fields : List (List ℕ) → List ℕ
fields [] = []
fields (first ∷ others) = fold (λ text field. text ++ (32 ∷ field)) first others

-- a line of these fields
abbrev pub line_text : List (List ℕ) → List ℕ
line_text fs = fields fs ++ (10 ∷ [])
