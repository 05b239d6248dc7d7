-- What a line of a study commands, by its fields, or the first fault of the line.
use Rattle.std.specs.Prelude.{if◌then◌else◌, List, [], ◌∷◌, ℕ, Result, Ok, Err, codes}
use Rattle.std.specs.Str.{bytes_eq}
use Rattle.model_text.specs.declared.study.StudyCommand.{StudyCommand}
use Rattle.model_text.specs.declared.study.StudyCommand.TheVariants.{Blank, Exits, Least, Quit}
use Rattle.model_text.specs.declared.fault.TextFault.{TextFault}
use Rattle.model_text.specs.declared.fault.TextFault.TheVariants.{UnknownCommand}
use Rattle.model_text.specs.Fields.{fields_of, behind_field}
use Rattle.model_text.specs.Grammar.{◌>>=◌, is_comment, no_field}
use Rattle.model_text.specs.NamedEdits.{names_number}

-- two names and a number
abbrev pub with_least : List (List ℕ) → Result StudyCommand TextFault
with_least fields = names_number fields >>= λ p. Ok (Least p.0 p.1 p.2)

abbrev pub study_by_word : List ℕ → List (List ℕ) → Result StudyCommand TextFault
study_by_word word fields =
    if is_comment word then Ok Blank
    else if bytes_eq word (codes "exits") then no_field Exits fields
    else if bytes_eq word (codes "least") then with_least fields
    else if bytes_eq word (codes "quit") then no_field Quit fields
    else Err UnknownCommand

abbrev pub study_of_fields : List (List ℕ) → List (List ℕ) → Result StudyCommand TextFault
study_of_fields [] rest = Ok Blank
study_of_fields (word ∷ fields) rest = study_by_word word rest

-- what a line of a study commands, or its first fault
unfoldable pub study_command_of : List ℕ → Result StudyCommand TextFault
study_command_of line = study_of_fields (fields_of line) (fields_of (behind_field line))
