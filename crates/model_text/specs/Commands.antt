-- What a line of a session commands, by its fields, or the first fault of the line.
use Rattle.std.specs.Prelude.{ℕ, if◌then◌else◌, List, [], ◌∷◌, Result, Ok, codes}
use Rattle.std.specs.Str.{bytes_eq}
use Rattle.model_text.specs.declared.command.Command.{Command}
use Rattle.model_text.specs.declared.command.Command.TheVariants.{Blank, Edit, Undo, Cut, Report, Work, Quit}
use Rattle.model_text.specs.declared.command.Report.TheVariants.{Routes, Clearing, Bottlenecks, Summary}
use Rattle.model_text.specs.declared.fault.TextFault.{TextFault}
use Rattle.model_text.specs.Fields.{fields_of, behind_field}
use Rattle.model_text.specs.Grammar.{◌>>=◌, is_comment, no_field, number_field, one_field}
use Rattle.model_text.specs.NamedEdits.{edit_by_word}

-- no field
abbrev pub alone : Command → List (List ℕ) → Result Command TextFault
alone command fields = no_field command fields

-- a number
abbrev pub with_number : (ℕ → Command) → List (List ℕ) → Result Command TextFault
with_number command fields = one_field fields >>= λ f. number_field f >>= λ n. Ok (command n)

-- a word that asks for something or ends the session; what no such word says is an edit
abbrev pub command_by_word : List ℕ → List (List ℕ) → Result Command TextFault
command_by_word word fields =
    if is_comment word then Ok Blank
    else if bytes_eq word (codes "undo") then alone Undo fields
    else if bytes_eq word (codes "cut") then with_number Cut fields
    else if bytes_eq word (codes "routes") then alone (Report Routes) fields
    else if bytes_eq word (codes "clearing") then alone (Report Clearing) fields
    else if bytes_eq word (codes "bottlenecks") then alone (Report Bottlenecks) fields
    else if bytes_eq word (codes "summary") then alone (Report Summary) fields
    else if bytes_eq word (codes "work") then alone Work fields
    else if bytes_eq word (codes "quit") then alone Quit fields
    else edit_by_word word fields >>= λ edit. Ok (Edit edit)

abbrev pub command_of_fields : List (List ℕ) → List (List ℕ) → Result Command TextFault
command_of_fields [] rest = Ok Blank
command_of_fields (word ∷ fields) rest = command_by_word word rest

-- what a line commands, or its first fault
unfoldable pub command_of : List ℕ → Result Command TextFault
command_of line = command_of_fields (fields_of line) (fields_of (behind_field line))
