-- What one line of an answer block says, by its fields.
use Rattle.std.specs.Prelude.{ℕ, Bool, true, false, if◌then◌else◌, List, [], ◌∷◌, Some, None, codes}
use Rattle.std.specs.declared.option.Option.{Option}
use Rattle.std.specs.Str.{bytes_eq}
use Rattle.model_text.specs.Fields.{fields_of}
use Rattle.model_text.specs.Grammar.{is_comment}
use Rattle.model_text.specs.NameFields.{◌>>=◌, name_of}
use Rattle.model_text.specs.Numbers.{field_number}
use Rattle.certificate_text.specs.declared.entry.Entry.{Entry}
use Rattle.certificate_text.specs.declared.entry.Entry.TheVariants.{Blank, Index, People, Cleared, Out, Label, Move, End}

-- the only field, which is a number
abbrev pub one_number : List (List ℕ) → Option ℕ
one_number (a ∷ []) = field_number a
one_number _ = None

-- `answer` and the number of the block
abbrev pub index_entry : List (List ℕ) → Option Entry
index_entry fields = one_number fields >>= λ n. Some (Index n)

-- `people` and how many there are
abbrev pub people_entry : List (List ℕ) → Option Entry
people_entry fields = one_number fields >>= λ n. Some (People n)

-- `cleared` and a moment
abbrev pub cleared_entry : List (List ℕ) → Option Entry
cleared_entry fields = one_number fields >>= λ n. Some (Cleared n)

-- `out`, a period and the people out by it
abbrev pub out_of : List ℕ → List ℕ → Option Entry
out_of period people = field_number period >>= λ k. field_number people >>= λ n. Some (Out k n)

abbrev pub out_entry : List (List ℕ) → Option Entry
out_entry (period ∷ people ∷ []) = out_of period people
out_entry _ = None

-- `label`, a node, a moment and the label from it on
abbrev pub label_of : List ℕ → List ℕ → List ℕ → Option Entry
label_of node moment label = name_of node >>= λ n. field_number moment >>= λ t. field_number label >>= λ v. Some (Label n t v)

abbrev pub label_entry : List (List ℕ) → Option Entry
label_entry (node ∷ moment ∷ label ∷ []) = label_of node moment label
label_entry _ = None

-- `move`, a moment, the two ends of an arc, and the people who enter it
abbrev pub read_move : List ℕ → List ℕ → List ℕ → List ℕ → Option Entry
read_move moment start finish people =
    field_number moment >>= λ t. name_of start >>= λ a. name_of finish >>= λ b. field_number people >>= λ n. Some (Move t a b n)

abbrev pub move_entry : List (List ℕ) → Option Entry
move_entry (moment ∷ start ∷ finish ∷ people ∷ []) = read_move moment start finish people
move_entry _ = None

-- `end` alone
abbrev pub end_entry : List (List ℕ) → Option Entry
end_entry [] = Some End
end_entry _ = None

-- what a line says by its first word and the fields after it
abbrev pub entry_by_word : List ℕ → List (List ℕ) → Option Entry
entry_by_word word more =
    if is_comment word then Some Blank
    else if bytes_eq word (codes "answer") then index_entry more
    else if bytes_eq word (codes "people") then people_entry more
    else if bytes_eq word (codes "cleared") then cleared_entry more
    else if bytes_eq word (codes "out") then out_entry more
    else if bytes_eq word (codes "label") then label_entry more
    else if bytes_eq word (codes "move") then move_entry more
    else if bytes_eq word (codes "end") then end_entry more
    else None

abbrev pub entry_of_fields : List (List ℕ) → Option Entry
entry_of_fields [] = Some Blank
entry_of_fields (word ∷ more) = entry_by_word word more

-- what a line says, where it is a line of a block
unfoldable pub entry_of : List ℕ → Option Entry
entry_of line = entry_of_fields (fields_of line)

-- whether a line ends the block
abbrev pub is_end : Entry → Bool
is_end End = true
is_end _ = false
