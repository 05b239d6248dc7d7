-- The line of a statement says it.
use Rattle.std.proofs.Common.{◌≡◌, ℕ, ◌+◌, ◌<◌, ◌≤◌, ◌^◌, true, cond, ◌||◌, nat_lt, List, [], ◌∷◌, ◌++◌, length, Result, Ok, Err, refl, sym, ap, ◌∙◌, arith}
use Rattle.std.specs.Prelude.{codes, decimal}
use Rattle.std.specs.List.{list_all}
use Rattle.std.proofs.lemmas.Bool.{and_parts, le-ltb}
use Rattle.evac_law.specs.Limits.{capacity_limit, floor_number_limit, horizon_limit, people_limit, rate_limit, seconds_limit, travel_limit}
use Rattle.evac_law.specs.Names.{IsName, name_text}
use Rattle.evac_law.specs.declared.name.NodeName.{NodeName}
use Rattle.line_io.specs.Text.{fields}
use Rattle.certificate_text.proofs.EntryTexts.{field_number-decimal}
use Rattle.certificate_text.proofs.LineTexts.{AreFields, IsField, IsLine, decimal-field, field-then, fields-back, fields-blank, fields-line, is_seen, name-field, seen-blank, word-field}
use Rattle.model_text.specs.declared.fault.TextFault.{TextFault}
use Rattle.model_text.specs.declared.fault.TextFault.TheVariants.{BadName, BadNumber, OutOfRange}
use Rattle.model_text.specs.Fields.{behind_field, behind_word, fields_of, skipped, text_of, word}
use Rattle.model_text.specs.Grammar.{◌>>=◌, Said, SaidPart, Blank, Header, Part, Title, Period, Horizon, Floor, Node, Exit, Arc, Window, Entrant, End, arc, as_statement, by_word, end, entrant, exit_fields, floor, horizon, name_field, node, node_fields, number_field, of_fields, or_fault, period, ranged, statement_of, text_field, title, window}
use Rattle.model_text.proofs.FieldLemmas.{fields-none, fields-some}
use Rattle.model_text.proofs.NameLaws.{text-reads}
use Rattle.model_writer.specs.Laws.{IsSpelled, IsSpelledPart, IsText}
use Rattle.model_writer.specs.ModelText.{part_line, said_line}

-- ---- one field

number-back : (n : ℕ) → n < 10 ^ 9 → number_field (decimal n) ≡ Ok n
number-back n few = ap (or_fault BadNumber) (field_number-decimal n few)

name-back : (name : NodeName) → IsName name → name_field (name_text name) ≡ Ok name
name-back name is = ap (or_fault BadName) (text-reads name is)

abbrev within : ℕ → ℕ → ℕ → Result ℕ TextFault
within low high n = cond (nat_lt n low || nat_lt high n) (Err OutOfRange) (Ok n)

range-back : (low high n : ℕ) → low ≤ n → n ≤ high → high < 10 ^ 9 → ranged low high (decimal n) ≡ Ok n
range-back low high n above below few = grind (arith, number-back, le-ltb)

-- a field that is read, and what is made of it
then-ok : {A B : Type 0} (r : Result A TextFault) (f : A → Result B TextFault) (x : A) (y : Result B TextFault) → r ≡ Ok x → f x ≡ y → r >>= f ≡ y
then-ok r f x y e h = ap (λ z. z >>= f) e ∙ h

-- ---- a line of fields

-- what its first word says of the bytes after it, whose fields are the others
pub record Spells (f : List ℕ) (fs : List (List ℕ)) : Type 0 where
  pub says : statement_of (fields (f ∷ fs)) ≡ by_word f (behind_field (fields (f ∷ fs)))
  pub behind : fields_of (behind_field (fields (f ∷ fs))) ≡ fs
  pub line : IsLine (fields (f ∷ fs))

spells : (f : List ℕ) (fs : List (List ℕ)) → IsField f → AreFields fs → length fs ≤ 9 → Spells f fs
unfolding statement_of
spells f fs is are few =
    let line : List ℕ = fields (f ∷ fs) in
    let back : fields_of line ≡ f ∷ fs = fields-back f fs is are in
    let first : word (skipped line) ∷ fields_of (behind_field line) ≡ f ∷ fs = sym (fields-some line (λ none. some-word line f fs back none)) ∙ back in
    record {
      says = ap (λ l. of_fields l (behind_field line)) back;
      behind = (let e : fields_of (behind_field line) ≡ fs = cc in e);
      line = fields-line f fs is are few;
    }
  where
    some-word : (line f : List ℕ) (fs : List (List ℕ)) → fields_of line ≡ f ∷ fs → word (skipped line) ≡ [] → ⊥
    some-word line f fs back none = let e : fields_of line ≡ [] = fields-none line none in cc

-- the word and the fields of each line without a text
abbrev pub SpellsPart : SaidPart → Type 0
SpellsPart (Title text) = Unit {0}
SpellsPart (Period seconds) = Spells (codes "period") (decimal seconds ∷ [])
SpellsPart (Horizon moments) = Spells (codes "horizon") (decimal moments ∷ [])
SpellsPart (Floor floor text) = Unit {0}
SpellsPart (Node name capacity start) = Spells (codes "node") (name_text name ∷ decimal capacity ∷ decimal start ∷ [])
SpellsPart (Exit name) = Spells (codes "node") (name_text name ∷ [])
SpellsPart (Arc start finish travel rate) = Spells (codes "arc") (name_text start ∷ name_text finish ∷ decimal travel ∷ decimal rate ∷ [])
SpellsPart (Window start finish first until) = Spells (codes "window") (name_text start ∷ name_text finish ∷ decimal first ∷ decimal until ∷ [])
SpellsPart (Entrant name moment people) = Spells (codes "entrant") (name_text name ∷ decimal moment ∷ decimal people ∷ [])

pub spells-part : (p : SaidPart) → IsSpelledPart p → SpellsPart p
unfolding seconds_limit horizon_limit capacity_limit travel_limit rate_limit people_limit
spells-part (Title text) is = tt
spells-part (Period seconds) is =
    let most = is.1 in
    spells (codes "period") (decimal seconds ∷ []) (word-field (codes "period") (omega arith) (omega arith) refl) (decimal-field seconds (omega arith), tt) (omega arith)
spells-part (Horizon moments) is =
    spells (codes "horizon") (decimal moments ∷ []) (word-field (codes "horizon") (omega arith) (omega arith) refl) (decimal-field moments (omega arith), tt) (omega arith)
spells-part (Floor floor text) is = tt
spells-part (Node name capacity start) is =
    let most = is.2 in
    let fewer = is.3 in
    spells (codes "node") (name_text name ∷ decimal capacity ∷ decimal start ∷ []) (word-field (codes "node") (omega arith) (omega arith) refl)
    (name-field name is.0, (decimal-field capacity (omega arith), (decimal-field start (omega arith), tt))) (omega arith)
spells-part (Exit name) is =
    spells (codes "node") (name_text name ∷ []) (word-field (codes "node") (omega arith) (omega arith) refl) (name-field name is.0, tt) (omega arith)
spells-part (Arc start finish travel rate) is =
    let longest = is.3 in
    let most = is.4 in
    spells (codes "arc") (name_text start ∷ name_text finish ∷ decimal travel ∷ decimal rate ∷ []) (word-field (codes "arc") (omega arith) (omega arith) refl)
    (name-field start is.0, (name-field finish is.1, (decimal-field travel (omega arith), (decimal-field rate (omega arith), tt)))) (omega arith)
spells-part (Window start finish first until) is =
    let latest = is.2 in
    let last = is.4 in
    spells (codes "window") (name_text start ∷ name_text finish ∷ decimal first ∷ decimal until ∷ []) (word-field (codes "window") (omega arith) (omega arith) refl)
    (name-field start is.0, (name-field finish is.1, (decimal-field first (omega arith), (decimal-field until (omega arith), tt)))) (omega arith)
spells-part (Entrant name moment people) is =
    let latest = is.2 in
    let most = is.4 in
    spells (codes "entrant") (name_text name ∷ decimal moment ∷ decimal people ∷ []) (word-field (codes "entrant") (omega arith) (omega arith) refl)
    (name-field name is.0, (decimal-field moment (omega arith), (decimal-field people (omega arith), tt))) (omega arith)

pub spells-header : (version : ℕ) → version ≤ 2 → Spells (codes "evacplan") (decimal version ∷ [])
spells-header version is =
    spells (codes "evacplan") (decimal version ∷ []) (word-field (codes "evacplan") (omega arith) (omega arith) refl) (decimal-field version (omega arith), tt) (omega arith)

pub spells-end : Spells (codes "end") []
spells-end = spells (codes "end") [] (word-field (codes "end") (omega arith) (omega arith) refl) tt (omega arith)

header-back : (v : ℕ) → v ≤ 2 → statement_of (fields (codes "evacplan" ∷ decimal v ∷ [])) ≡ Ok (Header v)
header-back v few = grind (arith, spells-header, number-back)

-- ---- a line with a text

text-back : (t : List ℕ) → 0 < length t → text_field t ≡ Ok t
text-back [] some = absurd (omega arith)
text-back (b ∷ bs) some = refl

title-back : (t : List ℕ) → 0 < length t → IsText t → statement_of (fields (codes "title" ∷ t ∷ [])) ≡ Ok (Part (Title t))
unfolding statement_of skipped behind_word
title-back t some is =
    ap (λ l. of_fields l (32 ∷ t)) (field-then (codes "title") t (word-field (codes "title") (omega arith) (omega arith) refl))
    ∙ ap as_statement (ap title is ∙ ap (λ r. r >>= λ x. Ok (Title x)) (text-back t some))

behind-seen : (f rest : List ℕ) → list_all is_seen f ≡ true → behind_word (f ++ (32 ∷ rest)) ≡ 32 ∷ rest
unfolding behind_word
behind-seen [] rest h = refl
behind-seen (b ∷ bs) rest h =
    let parts = and_parts (is_seen b) (list_all is_seen bs) h in
    ap (λ t. cond t (b ∷ (bs ++ (32 ∷ rest))) (behind_word (bs ++ (32 ∷ rest)))) (seen-blank b parts.0) ∙ behind-seen bs rest parts.1

skipped-seen : (f rest : List ℕ) → IsField f → skipped (f ++ rest) ≡ f ++ rest
unfolding skipped
skipped-seen [] rest is = absurd (let some = is.some in omega arith)
skipped-seen (b ∷ bs) rest is = grind (arith, and_parts, is_seen, seen-blank)

floor-back : (n : ℕ) (t : List ℕ) → n ≤ floor_number_limit → 0 < length t → IsText t → statement_of (fields (codes "floor" ∷ decimal n ∷ t ∷ [])) ≡ Ok (Part (Floor n t))
unfolding floor_number_limit statement_of skipped behind_word
floor-back n t few some is =
    let number : IsField (decimal n) = decimal-field n (omega arith) in
    let rest : List ℕ = 32 ∷ (decimal n ++ (32 ∷ t)) in
    let spelled : fields (codes "floor" ∷ decimal n ∷ t ∷ []) ≡ codes "floor" ++ rest = refl in
    let behind : behind_field rest ≡ 32 ∷ t = ap behind_word (skipped-seen (decimal n) (32 ∷ t) number) ∙ behind-seen (decimal n) t number.seen in
    let listed : fields_of rest ≡ decimal n ∷ fields_of t = fields-blank (decimal n ++ (32 ∷ t)) ∙ field-then (decimal n) t number in
    ap statement_of spelled
    ∙ ap (λ l. of_fields l rest) (field-then (codes "floor") (decimal n ++ (32 ∷ t)) (word-field (codes "floor") (omega arith) (omega arith) refl))
    ∙ ap as_statement (ap (λ l. floor l (text_of (behind_field rest))) listed
    ∙ ap (λ b. floor (decimal n ∷ fields_of t) (text_of b)) behind
    ∙ ap (λ x. floor (decimal n ∷ fields_of t) x) is
    ∙ ap (λ r. r >>= λ x. ranged 0 floor_number_limit (decimal n) >>= λ k. Ok (Floor k x)) (text-back t some)
    ∙ ap (λ r. r >>= λ k. Ok (Floor k t)) (range-back 0 floor_number_limit n (omega arith) few (omega arith)))

-- ---- all of them

pub part-back : (p : SaidPart) → IsSpelledPart p → statement_of (part_line p) ≡ Ok (Part p)
unfolding seconds_limit horizon_limit capacity_limit travel_limit rate_limit people_limit
part-back (Title text) is = title-back text is.0 is.1
part-back (Floor floor text) is = floor-back floor text is.0.0 is.0.1 is.1
part-back (Period n) is =
    let s = spells-part (Period n) is in
    s.says ∙ ap as_statement (ap period s.behind ∙ then-ok _ _ n _ (range-back 1 seconds_limit n is.0 is.1 (omega arith)) refl)
part-back (Horizon n) is =
    let s = spells-part (Horizon n) is in
    s.says ∙ ap as_statement (ap horizon s.behind ∙ then-ok _ _ n _ (range-back 0 horizon_limit n (omega arith) is (omega arith)) refl)
part-back (Node name capacity start) is =
    let s = spells-part (Node name capacity start) is in
    let more : List (List ℕ) = decimal capacity ∷ decimal start ∷ [] in
    s.says ∙ ap as_statement (ap node s.behind ∙ then-ok _ _ name _ (name-back name is.0) (ap (λ t. cond t (exit_fields name more) (node_fields name more)) is.1
    ∙ then-ok _ _ capacity _ (range-back 0 capacity_limit capacity (omega arith) is.2 (omega arith))
    (then-ok _ _ start _ (range-back 0 capacity_limit start (omega arith) is.3 (omega arith)) refl)))
part-back (Exit name) is =
    let s = spells-part (Exit name) is in
    s.says ∙ ap as_statement (ap node s.behind ∙ then-ok _ _ name _ (name-back name is.0) (ap (λ t. cond t (exit_fields name []) (node_fields name [])) is.1))
part-back (Arc a b t r) is =
    let s = spells-part (Arc a b t r) is in
    s.says ∙ ap as_statement (ap arc s.behind ∙ then-ok _ _ a _ (name-back a is.0) (then-ok _ _ b _ (name-back b is.1)
    (then-ok _ _ t _ (range-back 1 travel_limit t is.2 is.3 (omega arith)) (then-ok _ _ r _ (range-back 0 rate_limit r (omega arith) is.4 (omega arith)) refl))))
part-back (Window a b p q) is =
    let s = spells-part (Window a b p q) is in
    s.says ∙ ap as_statement (ap window s.behind ∙ then-ok _ _ a _ (name-back a is.0) (then-ok _ _ b _ (name-back b is.1)
    (then-ok _ _ p _ (range-back 0 horizon_limit p (omega arith) is.2 (omega arith)) (then-ok _ _ q _ (range-back 1 (horizon_limit + 1) q is.3 is.4 (omega arith)) refl))))
part-back (Entrant a t n) is =
    let s = spells-part (Entrant a t n) is in
    s.says ∙ ap as_statement (ap entrant s.behind ∙ then-ok _ _ a _ (name-back a is.0)
    (then-ok _ _ t _ (range-back 1 horizon_limit t is.1 is.2 (omega arith)) (then-ok _ _ n _ (range-back 1 people_limit n is.3 is.4 (omega arith)) refl)))

pub statement_back : (s : Said) → IsSpelled s → statement_of (said_line s) ≡ Ok s
statement_back Blank is = absurd is
statement_back (Header version) is = header-back version is
statement_back (Part part) is = part-back part is
statement_back End is = spells-end.says ∙ ap end spells-end.behind
