-- An edit of a model, by the word and the fields of its line, or the first fault of the line.
use Rattle.std.specs.Prelude.{ℕ, if◌then◌else◌, List, Result, Ok, Err, codes}
use Rattle.std.specs.Str.{bytes_eq}
use Rattle.evac_law.specs.declared.name.NodeName.{NodeName}
use Rattle.model_text.specs.declared.named_edit.NamedEdit.{NamedEdit}
use Rattle.model_text.specs.declared.named_edit.NamedEdit.TheVariants.{Shut, Reopen, ShutExit, ReopenExit, Rate, Room, Shift, Enter, Leave, Window, Unwindow}
use Rattle.model_text.specs.declared.fault.TextFault.{TextFault}
use Rattle.model_text.specs.declared.fault.TextFault.TheVariants.{UnknownCommand}
use Rattle.model_text.specs.Grammar.{◌>>=◌, four_fields, name_field, number_field, one_field, three_fields, two_fields}

-- a name
abbrev pub with_name : (NodeName → NamedEdit) → List (List ℕ) → Result NamedEdit TextFault
with_name edit fields = one_field fields >>= λ f. name_field f >>= λ a. Ok (edit a)

-- two names
abbrev pub two_names : List (List ℕ) → Result (NodeName × NodeName) TextFault
two_names fields = two_fields fields >>= λ f. name_field f.0 >>= λ a. name_field f.1 >>= λ b. Ok (a, b)

abbrev pub with_names : (NodeName → NodeName → NamedEdit) → List (List ℕ) → Result NamedEdit TextFault
with_names edit fields = two_names fields >>= λ p. Ok (edit p.0 p.1)

-- a name and a number
abbrev pub name_number : List (List ℕ) → Result (NodeName × ℕ) TextFault
name_number fields = two_fields fields >>= λ f. name_field f.0 >>= λ a. number_field f.1 >>= λ n. Ok (a, n)

abbrev pub with_name_number : (NodeName → ℕ → NamedEdit) → List (List ℕ) → Result NamedEdit TextFault
with_name_number edit fields = name_number fields >>= λ p. Ok (edit p.0 p.1)

-- two names and a number
abbrev pub names_number : List (List ℕ) → Result (NodeName × NodeName × ℕ) TextFault
names_number fields = three_fields fields >>= λ f. name_field f.0 >>= λ a. name_field f.1 >>= λ b. number_field f.2 >>= λ n. Ok (a, b, n)

abbrev pub with_names_number : (NodeName → NodeName → ℕ → NamedEdit) → List (List ℕ) → Result NamedEdit TextFault
with_names_number edit fields = names_number fields >>= λ p. Ok (edit p.0 p.1 p.2)

-- two names and two numbers
abbrev pub names_numbers : List (List ℕ) → Result (NodeName × NodeName × ℕ × ℕ) TextFault
names_numbers fields =
    four_fields fields >>= λ f. name_field f.0 >>= λ a. name_field f.1 >>= λ b. number_field f.2 >>= λ p. number_field f.3 >>= λ q. Ok (a, b, p, q)

abbrev pub with_names_numbers : (NodeName → NodeName → ℕ → ℕ → NamedEdit) → List (List ℕ) → Result NamedEdit TextFault
with_names_numbers edit fields = names_numbers fields >>= λ p. Ok (edit p.0 p.1 p.2 p.3)

-- a word that edits the model
abbrev pub edit_by_word : List ℕ → List (List ℕ) → Result NamedEdit TextFault
edit_by_word word fields =
    if bytes_eq word (codes "shut") then with_names Shut fields
    else if bytes_eq word (codes "reopen") then with_names Reopen fields
    else if bytes_eq word (codes "shutexit") then with_name ShutExit fields
    else if bytes_eq word (codes "openexit") then with_name ReopenExit fields
    else if bytes_eq word (codes "rate") then with_names_number Rate fields
    else if bytes_eq word (codes "room") then with_name_number Room fields
    else if bytes_eq word (codes "shift") then with_names_number Shift fields
    else if bytes_eq word (codes "enter") then with_name_number Enter fields
    else if bytes_eq word (codes "leave") then with_name_number Leave fields
    else if bytes_eq word (codes "window") then with_names_numbers Window fields
    else if bytes_eq word (codes "unwindow") then with_names_numbers Unwindow fields
    else Err UnknownCommand
