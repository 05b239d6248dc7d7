-- The building of a reading is one of parts that its lines say and that were taken.
use Rattle.std.proofs.Common.{◌≡◌, ℕ, ◌+◌, Bool, true, false, cond, ◌==◌, ◌||◌, List, [], ◌∷◌, ◌++◌, Result, Ok, Err, Some, None, refl, subst}
use Rattle.std.specs.declared.option.Option.{Option}
use Rattle.std.specs.List.{All}
use Rattle.std.proofs.lemmas.Bool.{cond_both}
use Rattle.std.proofs.lemmas.List.Elements.{All-cons, All-head, All-nil, All-tail}
use Rattle.evac_law.specs.declared.code.Code.{Code}
use Rattle.evac_law.specs.declared.code.Code.TheVariants.{FirstLine}
use Rattle.evac_law.specs.Building.{IsValid}
use Rattle.model_text.specs.declared.fault.TextFault.{TextFault}
use Rattle.model_text.specs.declared.fault.TextFault.TheVariants.{UnknownWord}
use Rattle.model_text.specs.Fields.{fields_of}
use Rattle.model_text.specs.Grammar.{Said, SaidPart, IsSaidPart, Blank, Header, Part, End, statement_of}
use Rattle.model_text.specs.Readings.{Line, Reading, Described, ReadingState, AtStart, InModel, Step, Moved, Ended, Stopped, step_unless, first_said, later_said, later_statement, begins_unknown, step_at, after_step, reading_at}
use Rattle.model_text.specs.Taken.{Description, description_of, part_fault, end_fault, AreTaken}
use Rattle.model_text.proofs.GoodLemmas.{GoodSaid, good-statement}
use Rattle.model_text.proofs.SoundLemmas.{taken-valid}

-- a line says a part
abbrev pub IsSaidIn : Line → SaidPart → Type 0
IsSaidIn (Ok content) s = statement_of content ≡ Ok (Part s)
IsSaidIn (Err code) s = ⊥

-- each part that a line says is of one kind
abbrev pub Says : (SaidPart → Type 0) → Line → Type 0
Says P line = (s : SaidPart) → IsSaidIn line s → P s

-- a building that parts of one kind describe, which were taken and may end
pub record IsSaidBy (P : SaidPart → Type 0) (d : Description) : Type 0 where
  pub taken : List SaidPart
  pub are : AreTaken taken
  pub each : All P taken
  pub may_end : end_fault taken ≡ None
  pub is : description_of taken ≡ d

-- the parts of a state were taken, and are of one kind
abbrev HasTaken : (SaidPart → Type 0) → ReadingState → Type 0
HasTaken P AtStart = Unit {0}
HasTaken P (InModel version taken) = AreTaken taken × All P taken

-- so are those to which a step leads
abbrev LeadsToTaken : (SaidPart → Type 0) → Step → Type 0
LeadsToTaken P (Moved state) = HasTaken P state
LeadsToTaken P (Ended building) = IsSaidBy P building
LeadsToTaken P (Stopped code) = Unit {0}

unless-taken : (P : SaidPart → Type 0) (o : Option Code) (step : Step) → (o ≡ None → LeadsToTaken P step) → LeadsToTaken P (step_unless o step)
unless-taken P (Some code) step h = tt
unless-taken P None step h = h refl

first-taken : (P : SaidPart → Type 0) (r : Result Said TextFault) → LeadsToTaken P (first_said r)
first-taken P (Ok Blank) = tt
first-taken P (Ok (Header version)) =
    cond_both (version == 1 || version == 2) (Moved (InModel version [])) (Stopped FirstLine) (LeadsToTaken P) (λ _. (tt, All-nil P)) (λ _. tt)
first-taken P (Ok s) = tt
first-taken P (Err fault) = tt

later-taken : (P : SaidPart → Type 0) (version : ℕ) (taken : List SaidPart) (r : Result Said TextFault) → ((s : SaidPart) → r ≡ Ok (Part s) → IsSaidPart s × P s) → AreTaken taken → All P taken
    → LeadsToTaken P (later_said version taken r)
later-taken P version taken (Ok Blank) says are each = (are, each)
later-taken P version taken (Ok (Header other)) says are each = tt
later-taken P version taken (Ok End) says are each =
    unless-taken P (end_fault taken) (Ended (description_of taken)) (λ none. record { taken = taken; are = are; each = each; may_end = none; is = refl })
later-taken P version taken (Ok (Part s)) says are each =
    let right = says s refl in
    unless-taken P (part_fault taken s) (Moved (InModel version (s ∷ taken))) (λ none. ((right.0, none, are), All-cons P s taken right.1 each))
later-taken P version taken (Err fault) says are each = tt

-- a line that is no unknown word says what it says in any place
known-says : (t : Bool) (r : Result Said TextFault) (s : Said) → cond t (Err UnknownWord) r ≡ Ok s → r ≡ Ok s
known-says true r s h = cc
known-says false r s h = h

step-taken : (P : SaidPart → Type 0) (state : ReadingState) (line : Line) → Says P line → HasTaken P state → LeadsToTaken P (step_at state line)
unfolding later_statement
step-taken P AtStart (Ok content) says has = first-taken P (statement_of content)
step-taken P (InModel version taken) (Ok content) says has =
    later-taken P version taken (later_statement version content) (λ s h.
    let e = known-says (begins_unknown version (fields_of content)) (statement_of content) (Part s) h in
    (subst GoodSaid e (good-statement content), says s e)) has.0 has.1
step-taken P state (Err code) says has = tt

described-is : (a b : Description) (m n : ℕ) (xs ys : List Line) → Described a m xs ≡ Described b n ys → a ≡ b
described-is a b m n xs ys h = cc

said-by-step : (P : SaidPart → Type 0) (step : Step) (number : ℕ) (lines : List Line) (more : ReadingState → Reading) (d : Description) (last : ℕ) (rest : List Line) → LeadsToTaken P step
    → ((state : ReadingState) → HasTaken P state → more state ≡ Described d last rest → IsSaidBy P d) → after_step step number lines more ≡ Described d last rest → IsSaidBy P d
said-by-step P (Moved state) number lines more d last rest leads ih h = ih state leads h
said-by-step P (Ended building) number lines more d last rest leads ih h = subst (IsSaidBy P) (described-is building d number last lines rest h) leads
said-by-step P (Stopped code) number lines more d last rest leads ih h = cc

-- the building that lines describe from a state on
pub reading-said : (P : SaidPart → Type 0) (state : ReadingState) (lines : List Line) (before : ℕ) (d : Description) (last : ℕ) (rest : List Line) → All (Says P) lines → HasTaken P state
    → reading_at state before lines ≡ Described d last rest → IsSaidBy P d
unfolding reading_at
reading-said P state [] before d last rest say has h = cc
reading-said P state (line ∷ lines) before d last rest say has h =
    said-by-step P (step_at state line) (before + 1) lines (λ next. reading_at next (before + 1) lines) d last rest (step-taken P state line (All-head (Says P) line lines say) has)
    (λ next taken. reading-said P next lines (before + 1) d last rest (All-tail (Says P) line lines say) taken) h

-- the model that lines describe is valid
pub opening-valid : (lines : List Line) (before : ℕ) (d : Description) (last : ℕ) (rest : List Line) → reading_at AtStart before lines ≡ Described d last rest → IsValid d.model
opening-valid lines before d last rest h =
    let by = reading-said (λ s. Unit {0}) AtStart lines before d last rest (λ k line within s said. tt) tt h in
    let P : Description → Type 0 = λ x. IsValid x.model in subst P by.is (taken-valid by.taken by.are by.may_end)

-- what lines described they describe with further lines after them
pub reading-further : (state : ReadingState) (before : ℕ) (xs ys : List Line) (d : Description) (last : ℕ) (rest : List Line)
    → reading_at state before xs ≡ Described d last rest → reading_at state before (xs ++ ys) ≡ Described d last (rest ++ ys)
unfolding reading_at
reading-further state before [] ys d last rest h = cc
reading-further state before (x ∷ xs) ys d last rest h = by-step (step_at state x) (λ next. reading-further next (before + 1) xs ys d last rest) h
  where
    by-step : (step : Step) → ((next : ReadingState) → reading_at next (before + 1) xs ≡ Described d last rest → reading_at next (before + 1) (xs ++ ys) ≡ Described d last (rest ++ ys))
        → after_step step (before + 1) xs (λ next. reading_at next (before + 1) xs) ≡ Described d last rest
        → after_step step (before + 1) (xs ++ ys) (λ next. reading_at next (before + 1) (xs ++ ys)) ≡ Described d last (rest ++ ys)
    by-step (Moved next) ih e = ih next e
    by-step (Ended building) ih e = let a : building ≡ d = cc in let b : before + 1 ≡ last = cc in let c : xs ≡ rest = cc in cc
    by-step (Stopped code) ih e = cc
