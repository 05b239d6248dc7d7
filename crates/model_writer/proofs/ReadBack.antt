-- Lines that say parts without a fault are read as the building that these describe.
use Rattle.std.proofs.Common.{◌≡◌, ℕ, ◌+◌, Bool, true, false, ◌||◌, cond, List, [], ◌∷◌, ◌++◌, length, map, Result, Ok, Err, None, refl, ap, ◌∙◌, arith}
use Rattle.std.specs.Prelude.{codes}
use Rattle.std.specs.Str.{bytes_eq}
use Rattle.model_text.specs.declared.fault.TextFault.{TextFault}
use Rattle.model_text.specs.Fields.{behind_field, fields_of}
use Rattle.model_text.specs.Grammar.{◌>>=◌, Said, SaidPart, Blank, Header, Part, End, header, is_comment, number_field, of_fields, one_field, statement_of}
use Rattle.model_text.specs.Readings.{Line, Described, ReadingState, InModel, Moved, Ended, after_step, begins_unknown, first_said, later_said, later_statement, model_of, opening_of, reading_at, step_at, step_unless}
use Rattle.line_io.specs.Line.{text_lines}
use Rattle.model_text.specs.Taken.{description_of, end_fault, part_fault}
use Rattle.model_writer.specs.Laws.{AreFine, pushed}
use Rattle.model_writer.specs.ModelText.{part_line, said_line}
use Rattle.model_writer.proofs.SaidBack.{part-back, statement_back}

-- ---- the first word of a line that says a part

header-by : (r : Result ℕ TextFault) (p : SaidPart) → (r >>= λ v. Ok (Header v)) ≡ Ok (Part p) → ⊥
header-by (Ok v) p e = cc
header-by (Err f) p e = cc

not-header : (fields : Result (List ℕ) TextFault) (p : SaidPart) → (fields >>= λ f. number_field f >>= λ v. Ok (Header v)) ≡ Ok (Part p) → ⊥
not-header (Ok f) p e = header-by (number_field f) p e
not-header (Err g) p e = cc

known-by : (comment begins : Bool) (fields : List (List ℕ)) (other : Result Said TextFault) (p : SaidPart)
    → cond comment (Ok Blank) (cond begins (header fields) other) ≡ Ok (Part p) → begins || false ≡ false
known-by true begins fields other p e = cc
known-by false true fields other p e = absurd (not-header (one_field fields) p e)
known-by false false fields other p e = refl

known-word : (fields : List (List ℕ)) (rest : List ℕ) (p : SaidPart) → of_fields fields rest ≡ Ok (Part p) → begins_unknown 2 fields ≡ false
known-word [] rest p e = refl
known-word (word ∷ more) rest p e = known-by (is_comment word) (bytes_eq word (codes "evacplan")) (fields_of rest) _ p e

known : (line : List ℕ) (p : SaidPart) → statement_of line ≡ Ok (Part p) → begins_unknown 2 (fields_of line) ≡ false
unfolding statement_of
known line p e = known-word (fields_of line) (behind_field line) p e

-- the reading after the header of version 2 and some parts
abbrev behind : List SaidPart → ReadingState
behind taken = InModel 2 taken

-- a line that says a part without a fault is taken
takes : (taken : List SaidPart) (line : List ℕ) (p : SaidPart) → statement_of line ≡ Ok (Part p) → part_fault taken p ≡ None → step_at (behind taken) (Ok line) ≡ Moved (behind (p ∷ taken))
unfolding later_statement
takes taken line p e none = grind (arith, known)

-- ---- parts, one after the other

abbrev pub part_lines : List SaidPart → List Line
part_lines ps = map (λ p. Ok (part_line p)) ps

pub reading-parts : (ps taken : List SaidPart) (before : ℕ) (rest : List Line) → AreFine taken ps
    → reading_at (behind taken) before (part_lines ps ++ rest) ≡ reading_at (behind (pushed taken ps)) (before + length ps) rest
unfolding reading_at
reading-parts [] taken before rest fine = ap (λ n. reading_at (behind taken) n rest) (let e : before ≡ before + 0 = omega arith in e)
reading-parts (p ∷ ps) taken before rest fine =
    ap (λ x. after_step x (before + 1) (part_lines ps ++ rest) (λ next. reading_at next (before + 1) (part_lines ps ++ rest)))
    (takes taken (part_line p) p (part-back p fine.0) fine.1)
    ∙ reading-parts ps (p ∷ taken) (before + 1) rest fine.2
    ∙ ap (λ n. reading_at (behind (pushed (p ∷ taken) ps)) n rest) (let e : before + 1 + length ps ≡ before + length (p ∷ ps) = omega arith in e)

end-ends : (taken : List SaidPart) → end_fault taken ≡ None → step_at (behind taken) (Ok (said_line End)) ≡ Ended (description_of taken)
unfolding fields_of later_statement statement_of
end-ends taken none =
    ap (later_said 2 taken) (statement_back End tt) ∙ ap (λ o. step_unless o (Ended (description_of taken))) none

reading-end : (taken : List SaidPart) (before : ℕ) → end_fault taken ≡ None → reading_at (behind taken) before (Ok (said_line End) ∷ []) ≡ Described (description_of taken) (before + 1) []
unfolding reading_at
reading-end taken before none = ap (λ x. after_step x (before + 1) [] (λ next. reading_at next (before + 1) [])) (end-ends taken none)

lines-of : (ps : List SaidPart) (s : Said) → text_lines (map said_line (map Part ps ++ (s ∷ []))) ≡ part_lines ps ++ (Ok (said_line s) ∷ [])
lines-of [] s = refl
lines-of (p ∷ ps) s = ap (λ l. Ok (part_line p) ∷ l) (lines-of ps s)

-- the lines of a header of version 2, of parts and of the end
opening-parts : (ps : List SaidPart) → AreFine [] ps → end_fault (pushed [] ps) ≡ None
    → opening_of 0 (Ok (said_line (Header 2)) ∷ (part_lines ps ++ (Ok (said_line End) ∷ []))) ≡ Described (description_of (pushed [] ps)) (length ps + 2) []
unfolding reading_at
opening-parts ps fine none =
    let rest : List Line = part_lines ps ++ (Ok (said_line End) ∷ []) in
    ap (λ r. after_step (first_said r) 1 rest (λ next. reading_at next 1 rest)) (statement_back (Header 2) (omega arith))
    ∙ reading-parts ps [] 1 (Ok (said_line End) ∷ []) fine
    ∙ reading-end (pushed [] ps) (1 + length ps) none
    ∙ ap (λ n. Described (description_of (pushed [] ps)) n []) (let e : 1 + length ps + 1 ≡ length ps + 2 = omega arith in e)

pub parts_back : (ps : List SaidPart) → AreFine [] ps → end_fault (pushed [] ps) ≡ None
    → model_of (text_lines (map said_line (Header 2 ∷ (map Part ps ++ (End ∷ []))))) ≡ Described (description_of (pushed [] ps)) (length ps + 2) []
parts_back ps fine none = ap (λ l. opening_of 0 (Ok (said_line (Header 2)) ∷ l)) (lines-of ps End) ∙ opening-parts ps fine none
