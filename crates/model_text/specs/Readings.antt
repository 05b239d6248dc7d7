-- The building that lines describe, or the first fault of the lines.
use Rattle.std.specs.Prelude.{ℕ, ◌+◌, Bool, false, ◌&&◌, ◌||◌, ◌==◌, if◌then◌else◌, List, [], ◌∷◌, Result, Ok, Err, Some, None, codes}
use Rattle.std.specs.declared.option.Option.{Option}
use Rattle.std.specs.Str.{bytes_eq}
use Rattle.evac_law.specs.declared.code.Code.{Code}
use Rattle.evac_law.specs.declared.code.Code.TheVariants.{FirstLine, MissingEnd}
use Rattle.model_text.specs.declared.fault.TextFault.{TextFault}
use Rattle.model_text.specs.declared.fault.TextFault.TheVariants.{UnknownWord}
use Rattle.model_text.specs.Codes.{text_fault_code}
use Rattle.model_text.specs.Fields.{fields_of}
use Rattle.model_text.specs.Grammar.{Said, SaidPart, Blank, Header, Part, End, statement_of}
use Rattle.model_text.specs.Taken.{Description, description_of, part_fault, end_fault}

-- a line: its content, or the code of its fault
abbrev pub Line : Type 0
Line = Result (List ℕ) Code

-- lines describe a building and end it at the line `last`, with `rest` after it; or they are refused, with a code and a line
pub data Reading : Type 0 where
  Described : (building : Description) → (last : ℕ) → (rest : List Line) → Reading
  Refused : (code : Code) → (line : ℕ) → Reading

-- the state of a reading: before the header, or after that of a version with some parts, the last one first
pub data ReadingState : Type 0 where
  AtStart : ReadingState
  InModel : (version : ℕ) → (taken : List SaidPart) → ReadingState

-- what one line does: the reading moves on to a state, a building ends, or the line is refused
pub data Step : Type 0 where
  Moved : (state : ReadingState) → Step
  Ended : (building : Description) → Step
  Stopped : (code : Code) → Step

-- a step, unless there is a fault
abbrev pub step_unless : Option Code → Step → Step
step_unless (Some code) step = Stopped code
step_unless None step = step

-- the first line that isn't blank is the header of version 1 or 2
abbrev pub first_said : Result Said TextFault → Step
first_said (Ok Blank) = Moved AtStart
first_said (Ok (Header version)) = if version == 1 || version == 2 then Moved (InModel version []) else Stopped FirstLine
first_said _ = Stopped FirstLine

-- the end of a model of some parts
abbrev pub end_step : List SaidPart → Step
end_step taken = step_unless (end_fault taken) (Ended (description_of taken))

-- a line after the header says one more part, or ends the model
abbrev pub later_said : ℕ → List SaidPart → Result Said TextFault → Step
later_said version taken (Ok Blank) = Moved (InModel version taken)
later_said version taken (Ok (Header other)) = Stopped (text_fault_code UnknownWord)
later_said version taken (Ok (Part part)) = step_unless (part_fault taken part) (Moved (InModel version (part ∷ taken)))
later_said version taken (Ok End) = end_step taken
later_said version taken (Err fault) = Stopped (text_fault_code fault)

-- whether a first word is unknown after the header: the header's own word, and in version 1 the words that only version 2 has
abbrev pub is_unknown : ℕ → List ℕ → Bool
is_unknown version word =
    bytes_eq word (codes "evacplan") || (version == 1 && (bytes_eq word (codes "window") || bytes_eq word (codes "entrant")))

abbrev pub begins_unknown : ℕ → List (List ℕ) → Bool
begins_unknown version [] = false
begins_unknown version (word ∷ more) = is_unknown version word

-- what a line after the header of a version says; an unknown word is refused before the fields after it are looked at
unfoldable pub later_statement : ℕ → List ℕ → Result Said TextFault
later_statement version line = if begins_unknown version (fields_of line) then Err UnknownWord else statement_of line

-- what a line of some content does
abbrev pub content_step : ReadingState → List ℕ → Step
content_step AtStart content = first_said (statement_of content)
content_step (InModel version taken) content = later_said version taken (later_statement version content)

abbrev pub step_at : ReadingState → Line → Step
step_at state (Ok content) = content_step state content
step_at state (Err code) = Stopped code

-- what a step of line `number` makes of the lines, with `more` the reading from a state on
abbrev pub after_step : Step → ℕ → List Line → (ReadingState → Reading) → Reading
after_step (Moved state) number rest more = more state
after_step (Ended building) number rest more = Described building number rest
after_step (Stopped code) number rest more = Refused code number

-- the reading of lines from a state on, after `before` lines
unfoldable pub reading_at : ReadingState → ℕ → List Line → Reading
reading_at state before [] = Refused MissingEnd (before + 1)
reading_at state before (line ∷ rest) = after_step (step_at state line) (before + 1) rest (λ next. reading_at next (before + 1) rest)

-- the reading of lines after `before` lines that said nothing
abbrev pub opening_of : ℕ → List Line → Reading
opening_of before lines = reading_at AtStart before lines

-- the building that lines describe, with the line that ends it and the lines after that; or the first fault
abbrev pub model_of : List Line → Reading
model_of lines = opening_of 0 lines
