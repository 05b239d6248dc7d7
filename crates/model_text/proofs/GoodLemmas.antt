-- What lines say keeps its ranges, and which faults a line may have.
use Rattle.std.proofs.Common.{◌≡◌, ◌≢◌, ℕ, ◌+◌, ◌<◌, ◌≤◌, Bool, true, false, cond, IfOk, IfErr, List, [], ◌∷◌, length, Result, Ok, Err, Some, None, refl, sym, subst, arith, codes}
use Rattle.std.specs.declared.option.Option.{Option}
use Rattle.std.specs.Str.{bytes_eq}
use Rattle.evac_law.specs.Limits.{horizon_limit, capacity_limit, people_limit, travel_limit, rate_limit}
use Rattle.evac_law.specs.Names.{IsName, is_exit}
use Rattle.evac_law.specs.declared.name.NodeName.{NodeName}
use Rattle.model_text.specs.declared.command.Command.{Command}
use Rattle.model_text.specs.declared.command.Command.TheVariants as commands
use Rattle.model_text.specs.declared.command.Report.TheVariants as reports
use Rattle.model_text.specs.declared.fault.TextFault.{TextFault}
use Rattle.model_text.specs.declared.fault.TextFault.TheVariants.{UnknownWord, FieldCount, BadNumber, OutOfRange, BadName, UnknownCommand}
use Rattle.model_text.specs.declared.named_edit.NamedEdit.{NamedEdit}
use Rattle.model_text.specs.declared.named_edit.NamedEdit.TheVariants as edits
use Rattle.model_text.specs.Commands.{alone, with_number, command_by_word}
use Rattle.model_text.specs.NamedEdits.{with_name, with_names, with_name_number, with_names_number, with_names_numbers, edit_by_word}
use Rattle.model_text.specs.Fields.{fields_of, behind_field}
use Rattle.model_text.specs.Grammar.{◌>>=◌, or_fault, number_field, ranged, name_field, text_field, no_field, one_field, two_fields, three_fields, four_fields, Said, SaidPart, IsSaid, IsSaidPart, Blank, Part, Exit, End, header, title, period, horizon, floor, exit_fields, node_fields, node, arc, window, entrant, part_by_word, end, is_comment, by_word, of_fields, statement_of}
use Rattle.model_text.specs.Readings.{is_unknown}
use Rattle.model_text.specs.Reads.{Reads, said}
use Rattle.model_text.specs.declared.statement.Statement.{Statement}
use Rattle.model_text.specs.NameFields.{name_of}
use Rattle.model_text.specs.Numbers.{field_number}
use Rattle.model_text.proofs.NameLaws.{reads-right}

-- an answer whose value is of one kind, or whose fault is of another
abbrev pub Good : {A : Type 0} → (TextFault → Type 0) → (A → Type 0) → Result A TextFault → Type 0
Good F P (Ok x) = P x
Good F P (Err e) = F e

good-bind : {A B : Type 0} (F : TextFault → Type 0) (P : A → Type 0) (Q : B → Type 0) (r : Result A TextFault) (f : A → Result B TextFault)
    → Good F P r → ((x : A) → P x → Good F Q (f x)) → Good F Q (r >>= f)
good-bind F P Q (Ok x) f h k = k x h
good-bind F P Q (Err e) f h k = h

-- either answer of a test
pick : {A : Type 0} (F : TextFault → Type 0) (P : A → Type 0) (t : Bool) (a b : Result A TextFault) → Good F P a → Good F P b → Good F P (cond t a b)
pick F P true a b h k = h
pick F P false a b h k = k

good-or : {A : Type 0} (F : TextFault → Type 0) (P : A → Type 0) (fault : TextFault) (o : Option A) → F fault → ((x : A) → o ≡ Some x → P x) → Good F P (or_fault fault o)
good-or F P fault (Some x) f h = h x refl
good-or F P fault None f h = f

abbrev Any-value : {A : Type 0} → A → Type 0
Any-value x = Unit {0}

good-number : (F : TextFault → Type 0) (field : List ℕ) → F BadNumber → Good F Any-value (number_field field)
good-number F field bad = good-or F Any-value BadNumber (field_number field) bad (λ x e. tt)

good-name : (F : TextFault → Type 0) (field : List ℕ) → F BadName → Good F IsName (name_field field)
good-name F field bad = good-or F IsName BadName (name_of field) bad (reads-right field)

abbrev IsWithin : ℕ → ℕ → ℕ → Type 0
IsWithin low high n = (low ≤ n) × (n ≤ high)

good-ranged : (F : TextFault → Type 0) (low high : ℕ) (field : List ℕ) → F BadNumber → F OutOfRange → Good F (IsWithin low high) (ranged low high field)
good-ranged F low high field bad out = grind arith

good-text : (F : TextFault → Type 0) (text : List ℕ) → F FieldCount → Good F (λ t. 0 < length t) (text_field text)
good-text F [] count = count
good-text F (b ∷ bs) count = omega arith

good-none : {A : Type 0} (F : TextFault → Type 0) (P : A → Type 0) (value : A) (fields : List (List ℕ)) → F FieldCount → P value → Good F P (no_field value fields)
good-none F P value [] count h = h
good-none F P value (a ∷ more) count h = count

good-one : (F : TextFault → Type 0) (fields : List (List ℕ)) → F FieldCount → Good F Any-value (one_field fields)
good-one F (a ∷ []) count = tt
good-one F _ count = count

good-two : (F : TextFault → Type 0) (fields : List (List ℕ)) → F FieldCount → Good F Any-value (two_fields fields)
good-two F (a ∷ b ∷ []) count = tt
good-two F _ count = count

good-three : (F : TextFault → Type 0) (fields : List (List ℕ)) → F FieldCount → Good F Any-value (three_fields fields)
good-three F (a ∷ b ∷ c ∷ []) count = tt
good-three F _ count = count

good-four : (F : TextFault → Type 0) (fields : List (List ℕ)) → F FieldCount → Good F Any-value (four_fields fields)
good-four F (a ∷ b ∷ c ∷ d ∷ []) count = tt
good-four F _ count = count

-- ---- statements

-- no fault of a statement
abbrev pub NoCommand : TextFault → Type 0
NoCommand e = e ≢ UnknownCommand

abbrev GoodPart : Result SaidPart TextFault → Type 0
GoodPart r = Good NoCommand IsSaidPart r

abbrev pub GoodSaid : Result Said TextFault → Type 0
GoodSaid r = Good NoCommand IsSaid r

count : NoCommand FieldCount
count = λ e. cc

number : NoCommand BadNumber
number = λ e. cc

name : NoCommand BadName
name = λ e. cc

range : NoCommand OutOfRange
range = λ e. cc

good-title : (text : List ℕ) → GoodPart (title text)
good-title text = good-bind NoCommand (λ t. 0 < length t) IsSaidPart (text_field text) _ (good-text NoCommand text count) (λ t h. h)

good-period : (fields : List (List ℕ)) → GoodPart (period fields)
good-period fields = grind (arith, count, number, range)

good-horizon : (fields : List (List ℕ)) → GoodPart (horizon fields)
good-horizon fields = grind (arith, count, number, range)

good-floor : (fields : List (List ℕ)) (text : List ℕ) → GoodPart (floor fields text)
good-floor [] text = count
good-floor (f ∷ more) text = grind (arith, count, number, range)

good-room : (n : NodeName) (fields : List (List ℕ)) → IsName n → is_exit n.kind ≡ false → GoodPart (node_fields n fields)
good-room n fields is room =
    good-bind NoCommand Any-value IsSaidPart (two_fields fields) _ (good-two NoCommand fields count) (λ f h.
    good-bind NoCommand (IsWithin 0 capacity_limit) IsSaidPart (ranged 0 capacity_limit f.0) _ (good-ranged NoCommand 0 capacity_limit f.0 number range) (λ c i.
    good-bind NoCommand (IsWithin 0 capacity_limit) IsSaidPart (ranged 0 capacity_limit f.1) _ (good-ranged NoCommand 0 capacity_limit f.1 number range) (λ s j.
    (is, room, i.1, j.1))))

good-exit : (n : NodeName) (fields : List (List ℕ)) → IsName n → is_exit n.kind ≡ true → GoodPart (exit_fields n fields)
good-exit n fields is out = good-none NoCommand IsSaidPart (Exit n) fields count (is, out)

kind-by : (n : NodeName) (fields : List (List ℕ)) (t : Bool) → is_exit n.kind ≡ t → IsName n → GoodPart (cond t (exit_fields n fields) (node_fields n fields))
kind-by n fields true e is = good-exit n fields is e
kind-by n fields false e is = good-room n fields is e

good-node : (fields : List (List ℕ)) → GoodPart (node fields)
good-node [] = count
good-node (f ∷ more) = good-bind NoCommand IsName IsSaidPart (name_field f) _ (good-name NoCommand f name) (λ n is. kind-by n more (is_exit n.kind) refl is)

good-arc : (fields : List (List ℕ)) → GoodPart (arc fields)
good-arc fields =
    good-bind NoCommand Any-value IsSaidPart (four_fields fields) _ (good-four NoCommand fields count) (λ f h.
    good-bind NoCommand IsName IsSaidPart (name_field f.0) _ (good-name NoCommand f.0 name) (λ a i.
    good-bind NoCommand IsName IsSaidPart (name_field f.1) _ (good-name NoCommand f.1 name) (λ b j.
    good-bind NoCommand (IsWithin 1 travel_limit) IsSaidPart (ranged 1 travel_limit f.2) _ (good-ranged NoCommand 1 travel_limit f.2 number range) (λ t k.
    good-bind NoCommand (IsWithin 0 rate_limit) IsSaidPart (ranged 0 rate_limit f.3) _ (good-ranged NoCommand 0 rate_limit f.3 number range) (λ r l.
    (i, j, k.0, k.1, l.1))))))

good-window : (fields : List (List ℕ)) → GoodPart (window fields)
good-window fields =
    good-bind NoCommand Any-value IsSaidPart (four_fields fields) _ (good-four NoCommand fields count) (λ f h.
    good-bind NoCommand IsName IsSaidPart (name_field f.0) _ (good-name NoCommand f.0 name) (λ a i.
    good-bind NoCommand IsName IsSaidPart (name_field f.1) _ (good-name NoCommand f.1 name) (λ b j.
    good-bind NoCommand (IsWithin 0 horizon_limit) IsSaidPart (ranged 0 horizon_limit f.2) _ (good-ranged NoCommand 0 horizon_limit f.2 number range) (λ p k.
    good-bind NoCommand (IsWithin 1 (horizon_limit + 1)) IsSaidPart (ranged 1 (horizon_limit + 1) f.3) _ (good-ranged NoCommand 1 (horizon_limit + 1) f.3 number range) (λ q l.
    (i, j, k.1, l.0, l.1))))))

good-entrant : (fields : List (List ℕ)) → GoodPart (entrant fields)
good-entrant fields =
    good-bind NoCommand Any-value IsSaidPart (three_fields fields) _ (good-three NoCommand fields count) (λ f h.
    good-bind NoCommand IsName IsSaidPart (name_field f.0) _ (good-name NoCommand f.0 name) (λ a i.
    good-bind NoCommand (IsWithin 1 horizon_limit) IsSaidPart (ranged 1 horizon_limit f.1) _ (good-ranged NoCommand 1 horizon_limit f.1 number range) (λ t j.
    good-bind NoCommand (IsWithin 1 people_limit) IsSaidPart (ranged 1 people_limit f.2) _ (good-ranged NoCommand 1 people_limit f.2 number range) (λ n k.
    (i, j.0, j.1, k.0, k.1)))))

part-by : (t : Bool) (a b : Result SaidPart TextFault) → GoodPart a → GoodPart b → GoodPart (cond t a b)
part-by t a b h k = pick NoCommand IsSaidPart t a b h k

good-part : (word rest : List ℕ) → GoodPart (part_by_word word rest)
good-part word rest = grind (arith, part-by, good-title, good-period, good-horizon, good-floor, good-node, good-arc, good-window, good-entrant)

good-header : (fields : List (List ℕ)) → GoodSaid (header fields)
good-header fields = grind (arith, count, number)

good-end : (fields : List (List ℕ)) → GoodSaid (end fields)
good-end fields = good-none NoCommand IsSaid End fields count tt

word-by : (t : Bool) (a b : Result Said TextFault) → GoodSaid a → GoodSaid b → GoodSaid (cond t a b)
word-by t a b h k = pick NoCommand IsSaid t a b h k

pub good-word : (word rest : List ℕ) → GoodSaid (by_word word rest)
good-word word rest =
    word-by (is_comment word) (Ok Blank) _ tt
    (word-by (bytes_eq word (codes "evacplan")) (header (fields_of rest)) _ (good-header (fields_of rest))
    (word-by (bytes_eq word (codes "end")) (end (fields_of rest)) _ (good-end (fields_of rest))
    (good-bind NoCommand IsSaidPart IsSaid (part_by_word word rest) (λ p. Ok (Part p)) (good-part word rest) (λ p is. is))))

good-fields : (fields : List (List ℕ)) (rest : List ℕ) → GoodSaid (of_fields fields rest)
good-fields [] rest = tt
good-fields (word ∷ more) rest = good-word word rest

-- what a line says keeps its ranges, and its fault is no command's
pub good-statement : (line : List ℕ) → GoodSaid (statement_of line)
unfolding statement_of
good-statement line = good-fields (fields_of line) (behind_field line)

-- the same after the header of a version
pub good-later_word : (version : ℕ) (word rest : List ℕ) → GoodSaid (cond (is_unknown version word) (Err UnknownWord) (by_word word rest))
good-later_word version word rest = word-by (is_unknown version word) (Err UnknownWord) (by_word word rest) (λ e. cc) (good-word word rest)

-- the same of an answer that reads a line
pub read-within : (r : Result Statement TextFault) (read : Result Said TextFault) → Reads r read → GoodSaid read → IfOk r (λ s. IsSaid (said s))
read-within (Ok s) read e h = subst GoodSaid e h
read-within (Err f) read e h = tt

pub read-fault : (r : Result Statement TextFault) (read : Result Said TextFault) → Reads r read → GoodSaid read → IfErr r NoCommand
read-fault (Ok s) read e h = tt
read-fault (Err f) read e h = subst GoodSaid e h

-- ---- commands

-- no fault of a command
abbrev pub NoStatement : TextFault → Type 0
NoStatement e = (e ≢ UnknownWord) × (e ≢ OutOfRange)

abbrev pub GoodCommand : Result Command TextFault → Type 0
GoodCommand r = Good NoStatement Any-value r

abbrev pub GoodEdit : Result NamedEdit TextFault → Type 0
GoodEdit r = Good NoStatement Any-value r

count' : NoStatement FieldCount
count' = ((λ e. cc), (λ e. cc))

number' : NoStatement BadNumber
number' = ((λ e. cc), (λ e. cc))

name' : NoStatement BadName
name' = ((λ e. cc), (λ e. cc))

unknown' : NoStatement UnknownCommand
unknown' = ((λ e. cc), (λ e. cc))

then-any : {A B : Type 0} (P : A → Type 0) (r : Result A TextFault) (f : A → Result B TextFault) → Good NoStatement P r → ((x : A) → Good NoStatement Any-value (f x)) → Good NoStatement Any-value (r >>= f)
then-any P r f h k = good-bind NoStatement P Any-value r f h (λ x p. k x)

one' : {B : Type 0} (fields : List (List ℕ)) (f : List ℕ → Result B TextFault) → ((x : List ℕ) → Good NoStatement Any-value (f x)) → Good NoStatement Any-value (one_field fields >>= f)
one' fields f k = then-any Any-value (one_field fields) f (good-one NoStatement fields count') k

field-name : {B : Type 0} (field : List ℕ) (f : NodeName → Result B TextFault) → ((x : NodeName) → Good NoStatement Any-value (f x)) → Good NoStatement Any-value (name_field field >>= f)
field-name field f k = then-any IsName (name_field field) f (good-name NoStatement field name') k

field-number : {B : Type 0} (field : List ℕ) (f : ℕ → Result B TextFault) → ((x : ℕ) → Good NoStatement Any-value (f x)) → Good NoStatement Any-value (number_field field >>= f)
field-number field f k = then-any Any-value (number_field field) f (good-number NoStatement field number') k

good-alone : (c : Command) (fields : List (List ℕ)) → GoodCommand (alone c fields)
good-alone c fields = good-none NoStatement Any-value c fields count' tt

good-with_number : (c : ℕ → Command) (fields : List (List ℕ)) → GoodCommand (with_number c fields)
good-with_number c fields = one' fields _ (λ f. field-number f _ (λ n. tt))

good-with_name : (c : NodeName → NamedEdit) (fields : List (List ℕ)) → GoodEdit (with_name c fields)
good-with_name c fields = one' fields _ (λ f. field-name f _ (λ n. tt))

good-with_names : (c : NodeName → NodeName → NamedEdit) (fields : List (List ℕ)) → GoodEdit (with_names c fields)
good-with_names c fields = grind (arith, count')

good-with_name_number : (c : NodeName → ℕ → NamedEdit) (fields : List (List ℕ)) → GoodEdit (with_name_number c fields)
good-with_name_number c fields = grind (arith, count')

good-with_names_number : (c : NodeName → NodeName → ℕ → NamedEdit) (fields : List (List ℕ)) → GoodEdit (with_names_number c fields)
good-with_names_number c fields = grind (arith, count')

good-with_names_numbers : (c : NodeName → NodeName → ℕ → ℕ → NamedEdit) (fields : List (List ℕ)) → GoodEdit (with_names_numbers c fields)
good-with_names_numbers c fields = grind (arith, count')

or-else : {A : Type 0} (t : Bool) (a b : Result A TextFault) → Good NoStatement Any-value a → Good NoStatement Any-value b → Good NoStatement Any-value (cond t a b)
or-else t a b h k = pick NoStatement Any-value t a b h k

good-edit : (word : List ℕ) (fields : List (List ℕ)) → GoodEdit (edit_by_word word fields)
good-edit word fields =
    or-else (bytes_eq word (codes "shut")) _ _ (good-with_names edits.Shut fields)
    (or-else (bytes_eq word (codes "reopen")) _ _ (good-with_names edits.Reopen fields)
    (or-else (bytes_eq word (codes "shutexit")) _ _ (good-with_name edits.ShutExit fields)
    (or-else (bytes_eq word (codes "openexit")) _ _ (good-with_name edits.ReopenExit fields)
    (or-else (bytes_eq word (codes "rate")) _ _ (good-with_names_number edits.Rate fields)
    (or-else (bytes_eq word (codes "room")) _ _ (good-with_name_number edits.Room fields)
    (or-else (bytes_eq word (codes "shift")) _ _ (good-with_names_number edits.Shift fields)
    (or-else (bytes_eq word (codes "enter")) _ _ (good-with_name_number edits.Enter fields)
    (or-else (bytes_eq word (codes "leave")) _ _ (good-with_name_number edits.Leave fields)
    (or-else (bytes_eq word (codes "window")) _ _ (good-with_names_numbers edits.Window fields)
    (or-else (bytes_eq word (codes "unwindow")) _ _ (good-with_names_numbers edits.Unwindow fields) unknown'))))))))))

-- the fault of a command is none of a statement's own
pub good-command : (word : List ℕ) (fields : List (List ℕ)) → GoodCommand (command_by_word word fields)
good-command word fields =
    or-else (is_comment word) _ _ tt
    (or-else (bytes_eq word (codes "undo")) _ _ (good-alone commands.Undo fields)
    (or-else (bytes_eq word (codes "cut")) _ _ (good-with_number commands.Cut fields)
    (or-else (bytes_eq word (codes "routes")) _ _ (good-alone (commands.Report reports.Routes) fields)
    (or-else (bytes_eq word (codes "clearing")) _ _ (good-alone (commands.Report reports.Clearing) fields)
    (or-else (bytes_eq word (codes "bottlenecks")) _ _ (good-alone (commands.Report reports.Bottlenecks) fields)
    (or-else (bytes_eq word (codes "summary")) _ _ (good-alone (commands.Report reports.Summary) fields)
    (or-else (bytes_eq word (codes "work")) _ _ (good-alone commands.Work fields)
    (or-else (bytes_eq word (codes "quit")) _ _ (good-alone commands.Quit fields)
    (then-any Any-value (edit_by_word word fields) _ (good-edit word fields) (λ e. tt))))))))))

pub command-fault : (r read : Result Command TextFault) → r ≡ read → GoodCommand read → IfErr r NoStatement
command-fault (Ok x) read e h = tt
command-fault (Err f) read e h = subst GoodCommand (sym e) h

pub command-no_word : (r : Result Command TextFault) → IfErr r NoStatement → IfErr r (λ f. f ≢ UnknownWord)
command-no_word (Ok x) h = tt
command-no_word (Err f) h = h.0

pub command-no_range : (r : Result Command TextFault) → IfErr r NoStatement → IfErr r (λ f. f ≢ OutOfRange)
command-no_range (Ok x) h = tt
command-no_range (Err f) h = h.1
