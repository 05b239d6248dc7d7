-- Lines that are spelled by fields give their fields back.
use Rattle.std.proofs.Common.{◌≡◌, ℕ, ◌+◌, ◌*◌, ◌%◌, ◌^◌, ◌<◌, ◌≤◌, zero, suc, Bool, true, false, ◌&&◌, ◌||◌, cond, nat_lt, List, [], ◌∷◌, ◌++◌, length, get_or, take, Ok, lit<, refl, sym, ap, ◌∙◌, arith, append_assoc, length-append}
use Rattle.std.specs.Prelude.{decimal}
use Rattle.std.specs.List.{flat_map, list_all, list_any}
use Rattle.std.proofs.lemmas.Bool.{and_parts, and_from, or_parts, lt-ltb, ltb-true, ne_eqb}
use Rattle.std.proofs.lemmas.Fmt.{decimal_by_steps, decimal_nonempty, length-decimal-le}
use Rattle.std.proofs.Math.Seq.{take-append_seam}
use Rattle.std.proofs.lemmas.List.{get_or_push}
use Rattle.std.proofs.lemmas.List.Folds.{list_all-append, list_all_at}
use Rattle.evac_law.specs.Limits.{floor_number_limit, number_limit}
use Rattle.line_io.specs.Line.{content, input_limit, is_lf, line_limit, line_of, lines_after, pieces, text_lines, then_lines, without_last}
use Rattle.line_io.specs.Line as lines
use Rattle.line_io.specs.Text.{fields}
use Rattle.line_io.proofs.Pieces.{line-good, without_last-drops, without_last-keeps, without_last-nil}
use Rattle.line_io.proofs.PassLemmas.{lines_after-nil}
use Rattle.line_io.proofs.TextLemmas.{fields-cons}
use Rattle.evac_law.specs.Names.{IsName, kind_text, name_text}
use Rattle.evac_law.specs.declared.name.Kind.{Kind}
use Rattle.evac_law.specs.declared.name.Kind.TheVariants.{Work}
use Rattle.evac_law.specs.declared.name.NodeName.{NodeName}
use Rattle.evac_law.proofs.NameLemmas.{length-kind_text, name_short}
use Rattle.model_text.specs.Fields.{fields_of, is_blank, joined, onto_first}

-- ---- fields

-- a byte that is no blank, and no end of a line
abbrev pub is_seen : ℕ → Bool
is_seen b = nat_lt 32 b

pub record IsField (f : List ℕ) : Type 0 where
  pub some : 0 < length f
  pub few : length f ≤ 10
  pub seen : list_all is_seen f ≡ true

abbrev pub AreFields : List (List ℕ) → Type 0
AreFields [] = Unit {0}
AreFields (f ∷ fs) = IsField f × AreFields fs

pub seen-blank : (b : ℕ) → is_seen b ≡ true → is_blank b ≡ false
seen-blank b e = grind (arith, ltb-true, ne_eqb)

fields-more : (b : ℕ) (bs : List ℕ) → is_seen b ≡ true → fields_of (b ∷ bs) ≡ joined b bs (fields_of bs)
unfolding fields_of
fields-more b bs e = ap (λ t. cond t (fields_of bs) (joined b bs (fields_of bs))) (seen-blank b e)

fields-none : fields_of [] ≡ []
unfolding fields_of
fields-none = refl

pub fields-blank : (rest : List ℕ) → fields_of (32 ∷ rest) ≡ fields_of rest
unfolding fields_of
fields-blank rest = refl

joined-seen : (b d : ℕ) (bs : List ℕ) (fs : List (List ℕ)) → is_seen d ≡ true → joined b (d ∷ bs) fs ≡ onto_first b fs
joined-seen b d bs fs e = ap (λ t. cond t ((b ∷ []) ∷ fs) (onto_first b fs)) (seen-blank d e)

word-alone : (b : ℕ) (bs : List ℕ) → list_all is_seen (b ∷ bs) ≡ true → fields_of (b ∷ bs) ≡ (b ∷ bs) ∷ []
word-alone b [] h = let p = and_parts (is_seen b) true h in fields-more b [] p.0 ∙ ap (λ fs. joined b [] fs) fields-none
word-alone b (d ∷ bs) h =
    let p = and_parts (is_seen b) (list_all is_seen (d ∷ bs)) h in
    let q = and_parts (is_seen d) (list_all is_seen bs) p.1 in
    fields-more b (d ∷ bs) p.0 ∙ joined-seen b d bs (fields_of (d ∷ bs)) q.0 ∙ ap (onto_first b) (word-alone d bs p.1)

word-then : (b : ℕ) (bs rest : List ℕ) → list_all is_seen (b ∷ bs) ≡ true → fields_of ((b ∷ bs) ++ (32 ∷ rest)) ≡ (b ∷ bs) ∷ fields_of rest
word-then b [] rest h = grind (arith, and_parts, fields-more, fields-blank)
word-then b (d ∷ bs) rest h =
    let p = and_parts (is_seen b) (list_all is_seen (d ∷ bs)) h in
    let q = and_parts (is_seen d) (list_all is_seen bs) p.1 in
    fields-more b ((d ∷ bs) ++ (32 ∷ rest)) p.0 ∙ joined-seen b d (bs ++ (32 ∷ rest)) (fields_of ((d ∷ bs) ++ (32 ∷ rest))) q.0
    ∙ ap (onto_first b) (word-then d bs rest p.1)

field-alone : (f : List ℕ) → IsField f → fields_of f ≡ f ∷ []
field-alone [] h = absurd (omega (arith, h.some))
field-alone (b ∷ bs) h = word-alone b bs h.seen

pub field-then : (f rest : List ℕ) → IsField f → fields_of (f ++ (32 ∷ rest)) ≡ f ∷ fields_of rest
field-then [] rest h = absurd (omega (arith, h.some))
field-then (b ∷ bs) rest h = word-then b bs rest h.seen

-- the fields of a line are those that it was spelled by
pub fields-back : (f : List ℕ) (fs : List (List ℕ)) → IsField f → AreFields fs → fields_of (fields (f ∷ fs)) ≡ f ∷ fs
fields-back f [] h hs = field-alone f h
fields-back f (g ∷ fs) h hs = ap fields_of (fields-cons f g fs) ∙ field-then f (fields (g ∷ fs)) h ∙ ap (λ x. f ∷ x) (fields-back g fs hs.0 hs.1)

-- ---- numbers and names

pub small-number : (n : ℕ) → n < 10 ^ 9 → n < 2 ^ 64
small-number n few = omega (arith, few)

digit-seen : (d : ℕ) → is_seen (48 + d) ≡ true
digit-seen d = lt-ltb 32 (48 + d) (omega arith)

decimal-seen : (n : ℕ) → n < 2 ^ 64 → list_all is_seen (decimal n) ≡ true
decimal-seen n small =
    let P : ℕ → List ℕ → Type 0 = λ k ds. list_all is_seen ds ≡ true in
    decimal_by_steps P
    (λ k l. and_from (is_seen (48 + k)) true (digit-seen k) refl)
    (λ k ds l h. list_all-append is_seen ds ((48 + k % 10) ∷ []) ∙ and_from (list_all is_seen ds) (is_seen (48 + k % 10) && true) h (and_from (is_seen (48 + k % 10)) true (digit-seen (k % 10)) refl))
    n small

pub decimal-field : (n : ℕ) → n < 10 ^ 9 → IsField (decimal n)
decimal-field n few =
    let small = small-number n few in
    let short = length-decimal-le 9 n (lit< tt) few small in
    record { some = decimal_nonempty n small; few = omega (arith, short); seen = decimal-seen n small }

kind-seen : (k : Kind) → list_all is_seen (kind_text k) ≡ true
kind-seen Work = refl
kind-seen _ = refl

both-seen : (xs ys : List ℕ) → list_all is_seen xs ≡ true → list_all is_seen ys ≡ true → list_all is_seen (xs ++ ys) ≡ true
both-seen xs ys h g = list_all-append is_seen xs ys ∙ and_from (list_all is_seen xs) (list_all is_seen ys) h g

name-seen : (name : NodeName) → IsName name → list_all is_seen (name_text name) ≡ true
unfolding name_text number_limit floor_number_limit
name-seen name is = grind (arith, both-seen, kind-seen, decimal-seen)

name-some : (name : NodeName) → 0 < length (name_text name)
unfolding name_text
name-some name = grind (arith, length-append, length-kind_text)

pub name-field : (name : NodeName) → IsName name → IsField (name_text name)
name-field name is = record { some = name-some name; few = name_short name is; seen = name-seen name is }

-- ---- lines

-- a byte that stays in its line
abbrev is_kept : ℕ → Bool
is_kept b = nat_lt 31 b

pub record IsLine (x : List ℕ) : Type 0 where
  pub kept : list_all is_kept x ≡ true
  pub short : length x ≤ 200

-- a line with its end
abbrev pub ended : List ℕ → List ℕ
ended x = x ++ (10 ∷ [])

kept-lf : (b : ℕ) → is_kept b ≡ true → is_lf b ≡ false
kept-lf b e = let l = ltb-true 31 b e in ne_eqb b 10 (λ q. omega (arith, q, l))

pieces-more : (b : ℕ) (bs : List ℕ) → is_lf b ≡ false → pieces (b ∷ bs) ≡ lines.onto_first b (pieces bs)
unfolding pieces
pieces-more b bs e = ap (λ t. cond t ((b ∷ []) ∷ pieces bs) (lines.onto_first b (pieces bs))) e

pieces-end : (rest : List ℕ) → pieces (10 ∷ rest) ≡ (10 ∷ []) ∷ pieces rest
unfolding pieces
pieces-end rest = refl

pub kept-whole : (x : List ℕ) → list_all is_kept x ≡ true → list_any is_lf x ≡ false
kept-whole [] h = refl
kept-whole (b ∷ bs) h =
    let p = and_parts (is_kept b) (list_all is_kept bs) h in
    ap (λ t. t || list_any is_lf bs) (kept-lf b p.0) ∙ kept-whole bs p.1

pub pieces-line : (x rest : List ℕ) → list_any is_lf x ≡ false → pieces (x ++ (10 ∷ rest)) ≡ ended x ∷ pieces rest
pieces-line [] rest h = pieces-end rest
pieces-line (b ∷ bs) rest h =
    let p = or_parts (is_lf b) (list_any is_lf bs) h in
    pieces-more b (bs ++ (10 ∷ rest)) p.0 ∙ ap (lines.onto_first b) (pieces-line bs rest p.1)

last-kept : (x : List ℕ) (n : ℕ) → list_all is_kept x ≡ true → length x ≡ suc n → get_or x n 0 ≡ 13 → ⊥
last-kept x n h size e = grind (arith, list_all_at)

no-cr : (x : List ℕ) (n : ℕ) → length x ≡ n → list_all is_kept x ≡ true → without_last 13 x ≡ x
no-cr x zero size h = sym (without_last-nil 13 x size)
no-cr x (suc n) size h = sym (without_last-keeps 13 x n size (last-kept x n h size))

content-line : (x : List ℕ) → list_all is_kept x ≡ true → content (ended x) ≡ x
content-line x h =
    let size : length (ended x) ≡ suc (length x) = (let e = length-append x (10 ∷ []) in omega (arith, e)) in
    let front : take (length x) (ended x) ≡ without_last 10 (ended x) = without_last-drops 10 (ended x) (length x) size (get_or_push x 10 0 (length x) refl) in
    ap (without_last 13) (sym front ∙ take-append_seam x (10 ∷ [])) ∙ no-cr x (length x) refl h

content-short : (x : List ℕ) → IsLine x → length (content (ended x)) ≤ line_limit
unfolding line_limit
content-short x h = let e = ap (λ (y : List ℕ). length y) (content-line x h.kept) in omega (arith, e, h.short)

pub lines-more : (before : ℕ) (p : List ℕ) (ps : List (List ℕ)) → lines_after before (p ∷ ps) ≡ then_lines (line_of (before + length p) p) (lines_after (before + length p) ps)
unfolding lines_after
lines-more before p ps = refl

abbrev pub AreLines : List (List ℕ) → Type 0
AreLines [] = Unit {0}
AreLines (x ∷ xs) = IsLine x × AreLines xs

-- the lines of texts with their ends are these texts
pub lines-back : (before : ℕ) (xs : List (List ℕ)) → AreLines xs → before + length (flat_map ended xs) ≤ input_limit → lines_after before (pieces (flat_map ended xs)) ≡ text_lines xs
lines-back before [] h l = lines_after-nil before
lines-back before (x ∷ xs) h l =
    let rest : List ℕ = flat_map ended xs in
    let size = length-append (ended x) rest in
    let spelled : (ended x) ++ rest ≡ x ++ (10 ∷ rest) = append_assoc x (10 ∷ []) rest in
    let after = before + length (ended x) in
    let same = content-line x h.0.kept in
    let good : line_of after (ended x) ≡ Ok x = line-good after (ended x) (content-short x h.0) (omega (arith, l, size)) ∙ ap (λ y. Ok y) same in
    ap (λ y. lines_after before (pieces y)) spelled
    ∙ ap (lines_after before) (pieces-line x rest (kept-whole x h.0.kept))
    ∙ lines-more before (ended x) (pieces rest)
    ∙ ap (λ y. then_lines y (lines_after after (pieces rest))) good
    ∙ ap (λ y. Ok x ∷ y) (lines-back after xs h.1 (omega (arith, l, size)))

-- ---- a line of fields

seen-kept : (b : ℕ) → is_seen b ≡ true → is_kept b ≡ true
seen-kept b e = let l = ltb-true 32 b e in lt-ltb 31 b (omega arith)

pub word-kept : (x : List ℕ) → list_all is_seen x ≡ true → list_all is_kept x ≡ true
word-kept [] h = refl
word-kept (b ∷ bs) h =
    let p = and_parts (is_seen b) (list_all is_seen bs) h in and_from (is_kept b) (list_all is_kept bs) (seen-kept b p.0) (word-kept bs p.1)

fields-kept : (f : List ℕ) (fs : List (List ℕ)) → IsField f → AreFields fs → list_all is_kept (fields (f ∷ fs)) ≡ true
fields-kept f [] h hs = word-kept f h.seen
fields-kept f (g ∷ fs) h hs =
    ap (list_all is_kept) (fields-cons f g fs) ∙ list_all-append is_kept f (32 ∷ fields (g ∷ fs))
    ∙ and_from (list_all is_kept f) (list_all is_kept (32 ∷ fields (g ∷ fs))) (word-kept f h.seen) (and_from (is_kept 32) (list_all is_kept (fields (g ∷ fs))) refl (fields-kept g fs hs.0 hs.1))

fields-size : (f : List ℕ) (fs : List (List ℕ)) → IsField f → AreFields fs → length (fields (f ∷ fs)) ≤ 11 * (length fs + 1)
fields-size f [] h hs = omega (arith, h.few)
fields-size f (g ∷ fs) h hs =
    let size = ap (λ (x : List ℕ). length x) (fields-cons f g fs) in
    let parts = length-append f (32 ∷ fields (g ∷ fs)) in
    let more = fields-size g fs hs.0 hs.1 in
    omega (arith, size, parts, more, h.few)

-- a line of at most ten fields
pub fields-line : (f : List ℕ) (fs : List (List ℕ)) → IsField f → AreFields fs → length fs ≤ 9 → IsLine (fields (f ∷ fs))
fields-line f fs h hs few = record { kept = fields-kept f fs h hs; short = let size = fields-size f fs h hs in omega (arith, size, few) }

-- a word of a block
pub word-field : (w : List ℕ) → 0 < length w → length w ≤ 10 → list_all is_seen w ≡ true → IsField w
word-field w some few seen = record { some = some; few = few; seen = seen }
