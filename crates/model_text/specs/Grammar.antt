-- What a line of a model says, by its fields, or the first fault of the line.
use Rattle.std.specs.Prelude.{ℕ, ◌+◌, ◌≤◌, ◌<◌, Bool, true, ◌||◌, ◌==◌, nat_lt, if◌then◌else◌, List, [], ◌∷◌, length, Result, Ok, Err, Some, None, codes, IsTrue, IsFalse}
use Rattle.std.specs.declared.option.Option.{Option}
use Rattle.std.specs.Str.{bytes_eq}
use Rattle.evac_law.specs.Limits.{seconds_limit, horizon_limit, floor_number_limit, capacity_limit, people_limit, travel_limit, rate_limit}
use Rattle.evac_law.specs.Names.{IsName, is_exit}
use Rattle.evac_law.specs.declared.name.NodeName.{NodeName}
use Rattle.model_text.specs.declared.fault.TextFault.{TextFault}
use Rattle.model_text.specs.declared.fault.TextFault.TheVariants.{UnknownWord, FieldCount, BadNumber, OutOfRange, BadName}
use Rattle.model_text.specs.Fields.{fields_of, behind_field, text_of}
use Rattle.model_text.specs.NameFields.{name_of}
use Rattle.model_text.specs.Numbers.{field_number}

-- a part of a model, without where it lies in memory
pub data SaidPart : Type 0 where
  Title : (text : List ℕ) → SaidPart
  Period : (seconds : ℕ) → SaidPart
  Horizon : (moments : ℕ) → SaidPart
  Floor : (floor : ℕ) → (text : List ℕ) → SaidPart
  Node : (name : NodeName) → (capacity : ℕ) → (start : ℕ) → SaidPart
  Exit : (name : NodeName) → SaidPart
  Arc : («from» : NodeName) → (to : NodeName) → (travel : ℕ) → (rate : ℕ) → SaidPart
  Window : («from» : NodeName) → (to : NodeName) → (first : ℕ) → (until : ℕ) → SaidPart
  Entrant : (name : NodeName) → (moment : ℕ) → (people : ℕ) → SaidPart

-- a statement, without where it lies in memory
pub data Said : Type 0 where
  Blank : Said
  Header : (version : ℕ) → Said
  Part : (part : SaidPart) → Said
  End : Said

-- the first fault, or what follows from the value
infixl 10 ◌>>=◌
abbrev pub ◌>>=◌ : {A B : Type 0} → Result A TextFault → (A → Result B TextFault) → Result B TextFault
(Ok x) >>= f = f x
(Err e) >>= f = Err e

-- a value, or a fault where there is none
abbrev pub or_fault : {A : Type 0} → TextFault → Option A → Result A TextFault
or_fault fault (Some x) = Ok x
or_fault fault None = Err fault

-- the number of a field, the number within a range, and the name
abbrev pub number_field : List ℕ → Result ℕ TextFault
number_field field = or_fault BadNumber (field_number field)

abbrev pub ranged : ℕ → ℕ → List ℕ → Result ℕ TextFault
ranged low high field = number_field field >>= λ n. if nat_lt n low || nat_lt high n then Err OutOfRange else Ok n

abbrev pub name_field : List ℕ → Result NodeName TextFault
name_field field = or_fault BadName (name_of field)

-- a text has at least one byte
abbrev pub text_field : List ℕ → Result (List ℕ) TextFault
text_field [] = Err FieldCount
text_field (b ∷ bs) = Ok (b ∷ bs)

-- exactly so many fields
abbrev pub no_field : {A : Type 0} → A → List (List ℕ) → Result A TextFault
no_field value [] = Ok value
no_field value _ = Err FieldCount

abbrev pub one_field : List (List ℕ) → Result (List ℕ) TextFault
one_field (a ∷ []) = Ok a
one_field _ = Err FieldCount

abbrev pub two_fields : List (List ℕ) → Result (List ℕ × List ℕ) TextFault
two_fields (a ∷ b ∷ []) = Ok (a, b)
two_fields _ = Err FieldCount

abbrev pub three_fields : List (List ℕ) → Result (List ℕ × List ℕ × List ℕ) TextFault
three_fields (a ∷ b ∷ c ∷ []) = Ok (a, b, c)
three_fields _ = Err FieldCount

abbrev pub four_fields : List (List ℕ) → Result (List ℕ × List ℕ × List ℕ × List ℕ) TextFault
four_fields (a ∷ b ∷ c ∷ d ∷ []) = Ok (a, b, c, d)
four_fields _ = Err FieldCount

-- `title` and a text
abbrev pub title : List ℕ → Result SaidPart TextFault
title text = text_field text >>= λ t. Ok (Title t)

-- `period` and its seconds
abbrev pub period : List (List ℕ) → Result SaidPart TextFault
period fields = one_field fields >>= λ f. ranged 1 seconds_limit f >>= λ s. Ok (Period s)

-- `horizon` and the last moment
abbrev pub horizon : List (List ℕ) → Result SaidPart TextFault
horizon fields = one_field fields >>= λ f. ranged 0 horizon_limit f >>= λ h. Ok (Horizon h)

-- `floor`, its number, and a text, which comes after the number
abbrev pub floor : List (List ℕ) → List ℕ → Result SaidPart TextFault
floor [] text = Err FieldCount
floor (number ∷ more) text = text_field text >>= λ t. ranged 0 floor_number_limit number >>= λ f. Ok (Floor f t)

-- `node` and a name; after an exit's name nothing comes, after another the capacity and the start
abbrev pub exit_fields : NodeName → List (List ℕ) → Result SaidPart TextFault
exit_fields name fields = no_field (Exit name) fields

abbrev pub node_fields : NodeName → List (List ℕ) → Result SaidPart TextFault
node_fields name fields = two_fields fields >>= λ f. ranged 0 capacity_limit f.0 >>= λ c. ranged 0 capacity_limit f.1 >>= λ s. Ok (Node name c s)

abbrev pub node : List (List ℕ) → Result SaidPart TextFault
node [] = Err FieldCount
node (name ∷ more) = name_field name >>= λ n. if is_exit n.kind then exit_fields n more else node_fields n more

-- `arc`, the two names of its ends, its traversal time and its rate
abbrev pub arc : List (List ℕ) → Result SaidPart TextFault
arc fields =
    four_fields fields >>= λ f. name_field f.0 >>= λ a. name_field f.1 >>= λ b. ranged 1 travel_limit f.2
    >>= λ t. ranged 0 rate_limit f.3 >>= λ r. Ok (Arc a b t r)

-- `window`, the two names of an arc's ends, the first moment at which it is closed and the moment until which it is
abbrev pub window : List (List ℕ) → Result SaidPart TextFault
window fields =
    four_fields fields >>= λ f. name_field f.0 >>= λ a. name_field f.1 >>= λ b. ranged 0 horizon_limit f.2
    >>= λ p. ranged 1 (horizon_limit + 1) f.3 >>= λ q. Ok (Window a b p q)

-- `entrant`, the name of a node, the moment at which people come into it and how many they are
abbrev pub entrant : List (List ℕ) → Result SaidPart TextFault
entrant fields =
    three_fields fields >>= λ f. name_field f.0 >>= λ a. ranged 1 horizon_limit f.1 >>= λ t. ranged 1 people_limit f.2 >>= λ n. Ok (Entrant a t n)

-- a part by its first word and the bytes after it
abbrev pub part_by_word : List ℕ → List ℕ → Result SaidPart TextFault
part_by_word word rest =
    if bytes_eq word (codes "title") then title (text_of rest)
    else if bytes_eq word (codes "period") then period (fields_of rest)
    else if bytes_eq word (codes "horizon") then horizon (fields_of rest)
    else if bytes_eq word (codes "floor") then floor (fields_of rest) (text_of (behind_field rest))
    else if bytes_eq word (codes "node") then node (fields_of rest)
    else if bytes_eq word (codes "arc") then arc (fields_of rest)
    else if bytes_eq word (codes "window") then window (fields_of rest)
    else if bytes_eq word (codes "entrant") then entrant (fields_of rest)
    else Err UnknownWord

-- `evacplan` and a version
abbrev pub header : List (List ℕ) → Result Said TextFault
header fields = one_field fields >>= λ f. number_field f >>= λ v. Ok (Header v)

-- `end` alone
abbrev pub end : List (List ℕ) → Result Said TextFault
end fields = no_field End fields

-- a part as a statement
abbrev pub as_statement : Result SaidPart TextFault → Result Said TextFault
as_statement part = part >>= λ p. Ok (Part p)

-- whether a first field makes its line a comment
abbrev pub is_comment : List ℕ → Bool
is_comment [] = true
is_comment (b ∷ bs) = b == 35

-- what a line says by its first word and the bytes after it
abbrev pub by_word : List ℕ → List ℕ → Result Said TextFault
by_word word rest =
    if is_comment word then Ok Blank
    else if bytes_eq word (codes "evacplan") then header (fields_of rest)
    else if bytes_eq word (codes "end") then end (fields_of rest)
    else as_statement (part_by_word word rest)

abbrev pub of_fields : List (List ℕ) → List ℕ → Result Said TextFault
of_fields [] rest = Ok Blank
of_fields (word ∷ more) rest = by_word word rest

-- what a line says, or its first fault
unfoldable pub statement_of : List ℕ → Result Said TextFault
statement_of line = of_fields (fields_of line) (behind_field line)

-- a part that a line may say: its names are names, its numbers keep their ranges
abbrev pub IsSaidPart : SaidPart → Type 0
IsSaidPart (Title text) = 0 < length text
IsSaidPart (Period seconds) = (1 ≤ seconds) × (seconds ≤ seconds_limit)
IsSaidPart (Horizon moments) = moments ≤ horizon_limit
IsSaidPart (Floor floor text) = (floor ≤ floor_number_limit) × (0 < length text)
IsSaidPart (Node name capacity start) = IsName name × IsFalse (is_exit name.kind) × (capacity ≤ capacity_limit) × (start ≤ capacity_limit)
IsSaidPart (Exit name) = IsName name × IsTrue (is_exit name.kind)
IsSaidPart (Arc start finish travel rate) = IsName start × IsName finish × (1 ≤ travel) × (travel ≤ travel_limit) × (rate ≤ rate_limit)
IsSaidPart (Window start finish first until) =
    IsName start × IsName finish × (first ≤ horizon_limit) × (1 ≤ until) × (until ≤ horizon_limit + 1)
IsSaidPart (Entrant name moment people) = IsName name × (1 ≤ moment) × (moment ≤ horizon_limit) × (1 ≤ people) × (people ≤ people_limit)

-- a statement that a line may say
abbrev pub IsSaid : Said → Type 0
IsSaid (Part part) = IsSaidPart part
IsSaid _ = Unit {0}
