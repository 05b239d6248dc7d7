-- The text of an entry says that entry.
use Rattle.std.proofs.Common.{◌≡◌, ℕ, ◌+◌, ◌<◌, ◌≤◌, ◌^◌, Bool, true, false, cond, List, [], ◌∷◌, ◌++◌, length, map, Some, None, refl, ap, ap₂, ◌∙◌, arith}
use Rattle.std.specs.Prelude.{codes, decimal}
use Rattle.std.specs.declared.option.Option.{Option}
use Rattle.std.specs.List.{All, enumerate_from, flat_map}
use Rattle.std.specs.Option.{option_and_then}
use Rattle.std.proofs.lemmas.List.Elements.{All-append, All-cons, All-head, All-map, All-nil, All-tail}
use Rattle.evac_law.specs.declared.model.Model.{Model}
use Rattle.evac_law.specs.Building.{IsValid, is_exit_at, node_at}
use Rattle.evac_law.specs.LabelTable.{label_at}
use Rattle.evac_law.specs.Names.{IsName, name_text}
use Rattle.evac_law.specs.Sums.{below}
use Rattle.evac_law.proofs.ValidLemmas.{head_in, horizon_small, name_is, tail_in}
use Rattle.line_io.specs.Text.{fields}
use Rattle.model_text.specs.Numbers.{has_leading_zero, field_number}
use Rattle.model_text.proofs.NameLaws.{plain-reads, text-reads}
use Rattle.certificate_text.specs.declared.block.Block.{Block}
use Rattle.certificate_text.specs.declared.entry.Entry.{Entry}
use Rattle.certificate_text.specs.declared.entry.Entry.TheVariants.{Blank, Index, People, Cleared, Out, Label, Move, End}
use Rattle.certificate_text.specs.Block.{IsBlockOf, number_field_limit}
use Rattle.certificate_text.specs.BlockEntries.{entries_of, label_entries, label_entry_at, entry_of_move, node_entries, out_entries}
use Rattle.certificate_text.specs.BlockReadings.{as_said, said_by, says_something}
use Rattle.certificate_text.specs.BlockText.{begins_run}
use Rattle.certificate_text.specs.Entries.{entry_by_word, entry_of, entry_of_fields}
use Rattle.certificate_text.proofs.LineTexts.{AreFields, AreLines, IsField, IsLine, decimal-field, fields-back, fields-line, name-field, small-number, word-field}
use Rattle.certificate_text.proofs.OrderedMoves.{all-below}
use Rattle.certificate_text.proofs.SaidLemmas.{said_by-append, said_by-entry, said_by-nil}

-- ---- what a line says

plain-by : (t : Bool) (o : Option ℕ) (n : ℕ) → cond t None o ≡ Some n → o ≡ Some n
plain-by true o n e = cc
plain-by false o n e = e

pub field_number-decimal : (n : ℕ) → n < 10 ^ 9 → field_number (decimal n) ≡ Some n
field_number-decimal n few = plain-by (has_leading_zero (decimal n)) (field_number (decimal n)) n (plain-reads n few (small-number n few))

-- the entry of fields
entry-back : (f : List ℕ) (fs : List (List ℕ)) → IsField f → AreFields fs → entry_of (fields (f ∷ fs)) ≡ entry_by_word f fs
unfolding entry_of
entry-back f fs h hs = ap entry_of_fields (fields-back f fs h hs)

number-entry : (make : ℕ → Entry) (n : ℕ) → n < 10 ^ 9 → option_and_then (λ k. Some (make k)) (field_number (decimal n)) ≡ Some (make n)
number-entry make n few = ap (λ o. option_and_then (λ k. Some (make k)) o) (field_number-decimal n few)

-- ---- the line of an entry

-- its first field, and those after it
abbrev word_of : Entry → List ℕ
word_of Blank = codes "#"
word_of (Index n) = codes "answer"
word_of (People n) = codes "people"
word_of (Cleared c) = codes "cleared"
word_of (Out k n) = codes "out"
word_of (Label name t v) = codes "label"
word_of (Move t start finish n) = codes "move"
word_of End = codes "end"

abbrev more_of : Entry → List (List ℕ)
more_of Blank = []
more_of (Index n) = decimal n ∷ []
more_of (People n) = decimal n ∷ []
more_of (Cleared c) = decimal c ∷ []
more_of (Out k n) = decimal k ∷ decimal n ∷ []
more_of (Label name t v) = name_text name ∷ decimal t ∷ decimal v ∷ []
more_of (Move t start finish n) = decimal t ∷ name_text start ∷ name_text finish ∷ decimal n ∷ []
more_of End = []

abbrev pub entry_text : Entry → List ℕ
entry_text e = fields (word_of e ∷ more_of e)

-- its numbers have nine digits at most, and its names are such
abbrev pub IsWritable : Entry → Type 0
IsWritable Blank = ⊥
IsWritable (Index n) = n < 10 ^ 9
IsWritable (People n) = n < 10 ^ 9
IsWritable (Cleared c) = c < 10 ^ 9
IsWritable (Out k n) = (k < 10 ^ 9) × (n < 10 ^ 9)
IsWritable (Label name t v) = IsName name × (t < 10 ^ 9) × (v < 10 ^ 9)
IsWritable (Move t start finish n) = (t < 10 ^ 9) × IsName start × IsName finish × (n < 10 ^ 9)
IsWritable End = Unit {0}

-- its word and what follows it are fields of a line, ten at most
fields-of : (e : Entry) → IsWritable e → IsField (word_of e) × AreFields (more_of e) × (length (more_of e) ≤ 9)
fields-of Blank h = absurd h
fields-of (Index n) h = (word-field (codes "answer") (omega arith) (omega arith) refl, (decimal-field n h, tt), omega arith)
fields-of (People n) h = (word-field (codes "people") (omega arith) (omega arith) refl, (decimal-field n h, tt), omega arith)
fields-of (Cleared c) h = (word-field (codes "cleared") (omega arith) (omega arith) refl, (decimal-field c h, tt), omega arith)
fields-of (Out k n) h = (word-field (codes "out") (omega arith) (omega arith) refl, (decimal-field k h.0, (decimal-field n h.1, tt)), omega arith)
fields-of (Label name t v) h =
    (word-field (codes "label") (omega arith) (omega arith) refl, (name-field name h.0, (decimal-field t h.1, (decimal-field v h.2, tt))), omega arith)
fields-of (Move t start finish n) h =
    (word-field (codes "move") (omega arith) (omega arith) refl, (decimal-field t h.0, (name-field start h.1, (name-field finish h.2, (decimal-field n h.3, tt)))), omega arith)
fields-of End h = (word-field (codes "end") (omega arith) (omega arith) refl, tt, omega arith)

text-line : (e : Entry) → IsWritable e → IsLine (entry_text e)
text-line e h = let f = fields-of e h in fields-line (word_of e) (more_of e) f.0 f.1 f.2

by-word : (e : Entry) → IsWritable e → entry_by_word (word_of e) (more_of e) ≡ Some e
by-word Blank h = absurd h
by-word (Index n) h = number-entry Index n h
by-word (People n) h = number-entry People n h
by-word (Cleared c) h = number-entry Cleared c h
by-word (Out k n) h = ap₂ (λ x y. option_and_then (λ i. option_and_then (λ j. Some (Out i j)) y) x) (field_number-decimal k h.0) (field_number-decimal n h.1)
by-word (Label name t v) h = grind (arith, text-reads, field_number-decimal)
by-word (Move t start finish n) h = grind (arith, field_number-decimal, text-reads)
by-word End h = refl

-- the text of an entry says that entry
pub text-says : (e : Entry) → IsWritable e → entry_of (entry_text e) ≡ Some e
text-says e h = let f = fields-of e h in entry-back (word_of e) (more_of e) f.0 f.1 ∙ by-word e h

is-said : (e : Entry) → IsWritable e → says_something (Some e) ≡ true
is-said Blank h = absurd h
is-said _ h = refl

pub texts-lines : (es : List Entry) → All IsWritable es → AreLines (map entry_text es)
texts-lines [] h = tt
texts-lines (e ∷ es) h = (text-line e (All-head IsWritable e es h), texts-lines es (All-tail IsWritable e es h))

-- the texts of entries say these entries
pub texts-say : (es : List Entry) → All IsWritable es → said_by (map entry_text es) ≡ as_said es
texts-say [] h = said_by-nil
texts-say (e ∷ es) h =
    let is = All-head IsWritable e es h in
    said_by-append (entry_text e ∷ []) (map entry_text es) ∙ ap₂ (λ x y. x ++ y) (said_by-entry (entry_text e) e (text-says e is) (is-said e is)) (texts-say es (All-tail IsWritable e es h))

-- ---- the entries of a block

-- but the end
abbrev pub body : Model → Block → List Entry
body m b =
    (Index b.index ∷ People b.people ∷ Cleared b.cleared ∷ []) ++ out_entries b.outs ++ label_entries m (label_at b.labels) b.cleared ++ map (entry_of_move m) b.moves

limit-small : (n : ℕ) → n ≤ number_field_limit → n < 10 ^ 9
unfolding number_field_limit
limit-small n h = omega (arith, h)

outs-written : (k : ℕ) (outs : List ℕ) → k + length outs ≤ 10 ^ 9 → All (λ n. n ≤ number_field_limit) outs → All IsWritable (map (λ (o : ℕ × ℕ). Out o.0 o.1) (enumerate_from k outs))
outs-written k [] few h = All-nil IsWritable
outs-written k (n ∷ outs) few h =
    let P : ℕ → Type 0 = λ n. n ≤ number_field_limit in
    All-cons IsWritable (Out k n) (map (λ (o : ℕ × ℕ). Out o.0 o.1) (enumerate_from (k + 1) outs)) (omega (arith, few), limit-small n (All-head P n outs h))
    (outs-written (k + 1) outs (omega (arith, few)) (All-tail P n outs h))

part-written : (m : Model) (f : ℕ → ℕ → ℕ) (n t : ℕ) (w : Bool) → IsName (node_at m n).name → t < 10 ^ 9 → f n t < 10 ^ 9 → All IsWritable (cond w (Label (node_at m n).name t (f n t) ∷ []) [])
part-written m f n t true is a b = All-cons IsWritable (Label (node_at m n).name t (f n t)) [] (is, a, b) (All-nil IsWritable)
part-written m f n t false is a b = All-nil IsWritable

node-written : (m : Model) (f : ℕ → ℕ → ℕ) (c n : ℕ) (w : Bool) → IsName (node_at m n).name → c < 10 ^ 9 → (w ≡ false → (t : ℕ) → t < c → f n t ≤ c) → All IsWritable (cond w [] (flat_map (label_entry_at m f n) (below c)))
node-written m f c n true is few fit = All-nil IsWritable
node-written m f c n false is few fit =
    all-below IsWritable (label_entry_at m f n) c (λ t l. part-written m f n t (begins_run (f n) t) is (omega (arith, l, few)) (let b = fit refl t l in omega (arith, b, few)))

-- a block of a valid model can be written
pub entries-written : (m : Model) (b : Block) → IsValid m → IsBlockOf m b → All IsWritable (entries_of m b)
entries-written m b valid of =
    let heads = Index b.index ∷ People b.people ∷ Cleared b.cleared ∷ [] in
    let labels = label_entries m (label_at b.labels) b.cleared in
    let small : b.cleared + 1 < 10 ^ 9 = (let h = horizon_small m valid in let k = of.in_horizon in omega (arith, h, k)) in
    All-append IsWritable (((heads ++ out_entries b.outs) ++ labels) ++ map (entry_of_move m) b.moves) (End ∷ [])
    (All-append IsWritable ((heads ++ out_entries b.outs) ++ labels) (map (entry_of_move m) b.moves)
    (All-append IsWritable (heads ++ out_entries b.outs) labels
    (All-append IsWritable heads (out_entries b.outs)
    (All-cons IsWritable (Index b.index) (People b.people ∷ Cleared b.cleared ∷ []) (limit-small b.index of.index_fits)
    (All-cons IsWritable (People b.people) (Cleared b.cleared ∷ []) (limit-small b.people of.people_fit) (All-cons IsWritable (Cleared b.cleared) [] (omega (arith, small)) (All-nil IsWritable))))
    (outs-written 0 b.outs (let size = of.outs_full in omega (arith, size, small)) of.outs_fit))
    (all-below IsWritable (node_entries m (label_at b.labels) b.cleared) (length m.nodes) (λ n l.
    node-written m (label_at b.labels) b.cleared n (is_exit_at m n) (name_is m n valid l) (omega (arith, small)) (λ e t k. of.labels.fit n t l e k))))
    (All-map IsWritable (entry_of_move m) b.moves (λ i d l.
    let in_range = of.ordered.in_range i d l in
    let fits = of.moves_fit i d l in
    ((let h = horizon_small m valid in omega (arith, h, in_range.1)), name_is m _ valid (tail_in m _ valid in_range.0), name_is m _ valid (head_in m _ valid in_range.0), limit-small _ fits))))
    (All-cons IsWritable End [] tt (All-nil IsWritable))
