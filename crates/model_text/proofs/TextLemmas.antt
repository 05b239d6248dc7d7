-- The texts of the parts that lines say.
use Rattle.std.proofs.Common.{◌≡◌, ℕ, ◌+◌, ◌<◌, Bool, true, false, cond, nat_lt, ◌||◌, List, [], ◌∷◌, length, Result, Ok, Err, Some, None, refl, ap, subst, arith, rules, codes}
use Rattle.std.specs.Prelude.{decimal}
use Rattle.std.specs.declared.option.Option.{Option}
use Rattle.std.specs.Str.{bytes_eq}
use Rattle.std.proofs.lemmas.Slice.Eq.{bytes_eq-Decides}
use Rattle.evac_law.specs.Limits.{seconds_limit, horizon_limit, floor_number_limit}
use Rattle.evac_law.specs.declared.name.NodeName.{NodeName}
use Rattle.model_text.specs.declared.fault.TextFault.{TextFault}
use Rattle.model_text.specs.declared.fault.TextFault.TheVariants.{UnknownWord, BadNumber, OutOfRange}
use Rattle.model_text.specs.Fields.{fields_of, behind_field, skipped, text_of}
use Rattle.model_text.specs.Grammar.{◌>>=◌, or_fault, number_field, ranged, text_field, no_field, one_field, Said, SaidPart, Blank, Part, Title, Floor, header, title, period, horizon, floor, node_fields, node, arc, window, entrant, part_by_word, end, is_comment, by_word, of_fields, statement_of}
use Rattle.model_text.specs.Numbers.{field_number}
use Rattle.model_text.specs.Plain.{IsContentWithin, IsTextBehind}
use Rattle.model_text.proofs.BehindLemmas.{field-behind, fields-behind, further-behind, less-text, line-behind, text-behind}
use Rattle.model_text.proofs.GoodLemmas.{Good}
use Rattle.model_text.proofs.NumberLemmas.{length-decimal_field}

-- the text of a part that has one fits after the word and the number of its line
abbrev pub HasText : ℕ → SaidPart → Type 0
HasText limit (Title text) = IsTextBehind limit 6 text
HasText limit (Floor floor text) = IsTextBehind limit (7 + length (decimal floor)) text
HasText limit _ = Unit {0}

abbrev SaysText : ℕ → Said → Type 0
SaysText limit (Part part) = HasText limit part
SaysText limit _ = Unit {0}

abbrev Any-fault : TextFault → Type 0
Any-fault e = Unit {0}

abbrev GoodText : ℕ → Result SaidPart TextFault → Type 0
GoodText limit r = Good Any-fault (HasText limit) r

abbrev GoodLine : ℕ → Result Said TextFault → Type 0
GoodLine limit r = Good Any-fault (SaysText limit) r

then-good : {A B : Type 0} (Q : B → Type 0) (r : Result A TextFault) (f : A → Result B TextFault) → ((x : A) → r ≡ Ok x → Good Any-fault Q (f x)) → Good Any-fault Q (r >>= f)
then-good Q (Ok x) f k = k x refl
then-good Q (Err e) f k = tt

good-by : {B : Type 0} (Q : B → Type 0) (t : Bool) (a b : Result B TextFault) → (t ≡ true → Good Any-fault Q a) → Good Any-fault Q b → Good Any-fault Q (cond t a b)
good-by Q true a b h k = h refl
good-by Q false a b h k = k

then-text : {A : Type 0} (limit : ℕ) (r : Result A TextFault) (f : A → Result SaidPart TextFault) → ((x : A) → r ≡ Ok x → GoodText limit (f x)) → GoodText limit (r >>= f)
then-text limit r f k = then-good (HasText limit) r f k

text-by : (limit : ℕ) (t : Bool) (a b : Result SaidPart TextFault) → (t ≡ true → GoodText limit a) → GoodText limit b → GoodText limit (cond t a b)
text-by limit t a b h k = good-by (HasText limit) t a b h k

-- ---- parts without a text

text-period : (limit : ℕ) (fields : List (List ℕ)) → GoodText limit (period fields)
text-period limit fields = then-text limit (one_field fields) _ (λ f _. then-text limit (ranged 1 seconds_limit f) _ (λ s _. tt))

text-horizon : (limit : ℕ) (fields : List (List ℕ)) → GoodText limit (horizon fields)
text-horizon limit fields = then-text limit (one_field fields) _ (λ f _. then-text limit (ranged 0 horizon_limit f) _ (λ h _. tt))

text-none : (limit : ℕ) (s : SaidPart) (fields : List (List ℕ)) → HasText limit s → GoodText limit (no_field s fields)
text-none limit s [] h = h
text-none limit s (a ∷ more) h = tt

text-room : (limit : ℕ) (n : NodeName) (fields : List (List ℕ)) → GoodText limit (node_fields n fields)
text-room limit n fields = grind arith

text-node : (limit : ℕ) (fields : List (List ℕ)) → GoodText limit (node fields)
text-node limit [] = tt
text-node limit (f ∷ more) = grind (arith, text-by, text-none, text-room)

text-arc : (limit : ℕ) (fields : List (List ℕ)) → GoodText limit (arc fields)
text-arc limit fields = grind arith

text-window : (limit : ℕ) (fields : List (List ℕ)) → GoodText limit (window fields)
text-window limit fields = grind arith

text-entrant : (limit : ℕ) (fields : List (List ℕ)) → GoodText limit (entrant fields)
text-entrant limit fields = grind arith

-- ---- parts with a text

-- a text is the rest of its line, which isn't empty
text-is : (rest text : List ℕ) → text_field rest ≡ Ok text → (rest ≡ text) × (0 < length rest)
text-is [] text h = cc
text-is (b ∷ bs) text h = ((let e : b ∷ bs ≡ text = cc in e), omega arith)

text-title : (limit : ℕ) (line word : List ℕ) (more : List (List ℕ)) → IsContentWithin limit (Ok line) → fields_of line ≡ word ∷ more → word ≡ codes "title" → GoodText limit (title (text_of (behind_field line)))
text-title limit line word more content first is =
    then-text limit (text_field (text_of (behind_field line))) _ (λ text h.
    let rest = text-is (text_of (behind_field line)) text h in
    let P : List ℕ → Type 0 = λ l. IsTextBehind limit 6 l in
    subst P rest.0 (less-text limit 6 (length word + 1) (text_of (behind_field line)) (let five : length word ≡ 5 = ap length is in omega arith)
    (text-behind limit (length word) line (skipped line) content (line-behind line word more first) rest.1)))

-- a number within a range is that of its field
range-is : (low high n : ℕ) (o : Option ℕ) → (or_fault BadNumber o >>= λ m. cond (nat_lt m low || nat_lt high m) (Err OutOfRange) (Ok m)) ≡ Ok n → o ≡ Some n
range-is low high n None h = cc
range-is low high n (Some m) h = by-test (nat_lt m low || nat_lt high m) h
  where
    by-test : (t : Bool) → cond t (Err OutOfRange) (Ok m) ≡ Ok n → Some m ≡ Some n
    by-test true h = cc
    by-test false h = cc

text-floor : (limit : ℕ) (line word : List ℕ) (more fields : List (List ℕ)) → IsContentWithin limit (Ok line) → fields_of line ≡ word ∷ more → word ≡ codes "floor" → fields_of (behind_field line) ≡ fields
    → GoodText limit (floor fields (text_of (behind_field (behind_field line))))
text-floor limit line word more [] content first is behind = tt
text-floor limit line word more (number ∷ fields) content first is behind =
    let rest : List ℕ = behind_field line in
    then-text limit (text_field (text_of (behind_field rest))) _ (λ text h. then-text limit (ranged 0 floor_number_limit number) _ (λ f g.
    let whole = text-is (text_of (behind_field rest)) text h in
    let P : List ℕ → Type 0 = λ l. IsTextBehind limit (7 + length (decimal f)) l in
    let digits = length-decimal_field number f (range-is 0 floor_number_limit f (field_number number) g) in
    let number-in = further-behind (length word) 1 line rest (skipped rest) (line-behind line word more first) (fields-behind (skipped line) number fields behind) in
    let text-in = further-behind (length word + 1) (length number) line (skipped rest) (behind_field rest) number-in (field-behind rest number fields behind) in
    let five : length word ≡ 5 = ap length is in
    subst P whole.0 (less-text limit (7 + length (decimal f)) (length word + 1 + length number + 1) (text_of (behind_field rest)) (omega arith)
    (text-behind limit (length word + 1 + length number) line (skipped rest) content text-in whole.1))))

text-part : (limit : ℕ) (line word : List ℕ) (more : List (List ℕ)) → IsContentWithin limit (Ok line) → fields_of line ≡ word ∷ more → GoodText limit (part_by_word word (behind_field line))
text-part limit line word more content first =
    let rest : List ℕ = behind_field line in
    text-by limit (bytes_eq word (codes "title")) (title (text_of rest)) _ (λ is. text-title limit line word more content first (spelled word (codes "title") is))
    (text-by limit (bytes_eq word (codes "period")) (period (fields_of rest)) _ (λ _. text-period limit (fields_of rest))
    (text-by limit (bytes_eq word (codes "horizon")) (horizon (fields_of rest)) _ (λ _. text-horizon limit (fields_of rest))
    (text-by limit (bytes_eq word (codes "floor")) (floor (fields_of rest) (text_of (behind_field rest))) _ (λ is. text-floor limit line word more (fields_of rest) content first (spelled word (codes "floor") is) refl)
    (text-by limit (bytes_eq word (codes "node")) (node (fields_of rest)) _ (λ _. text-node limit (fields_of rest))
    (text-by limit (bytes_eq word (codes "arc")) (arc (fields_of rest)) _ (λ _. text-arc limit (fields_of rest))
    (text-by limit (bytes_eq word (codes "window")) (window (fields_of rest)) _ (λ _. text-window limit (fields_of rest))
    (text-by limit (bytes_eq word (codes "entrant")) (entrant (fields_of rest)) (Err UnknownWord) (λ _. text-entrant limit (fields_of rest)) tt)))))))
  where
    spelled : (a b : List ℕ) → bytes_eq a b ≡ true → a ≡ b
    spelled a b h = search (rules, bytes_eq-Decides a b)

-- ---- lines

text-header : (limit : ℕ) (fields : List (List ℕ)) → GoodLine limit (header fields)
text-header limit fields = then-good (SaysText limit) (one_field fields) _ (λ f _. then-good (SaysText limit) (number_field f) _ (λ v _. tt))

text-end : (limit : ℕ) (fields : List (List ℕ)) → GoodLine limit (end fields)
text-end limit [] = tt
text-end limit (a ∷ more) = tt

text-word : (limit : ℕ) (line word : List ℕ) (more : List (List ℕ)) → IsContentWithin limit (Ok line) → fields_of line ≡ word ∷ more → GoodLine limit (by_word word (behind_field line))
text-word limit line word more content first =
    let rest : List ℕ = behind_field line in
    good-by (SaysText limit) (is_comment word) (Ok Blank) _ (λ _. tt)
    (good-by (SaysText limit) (bytes_eq word (codes "evacplan")) (header (fields_of rest)) _ (λ _. text-header limit (fields_of rest))
    (good-by (SaysText limit) (bytes_eq word (codes "end")) (end (fields_of rest)) _ (λ _. text-end limit (fields_of rest))
    (then-good (SaysText limit) (part_by_word word rest) (λ p. Ok (Part p)) (λ p h. subst (GoodText limit) h (text-part limit line word more content first)))))

-- a part that a line says has a text that fits in it
pub line-text : (limit : ℕ) (line : List ℕ) → IsContentWithin limit (Ok line) → (s : SaidPart) → statement_of line ≡ Ok (Part s) → HasText limit s
unfolding statement_of
line-text limit line content s h = subst (GoodLine limit) h (by-fields (fields_of line) refl)
  where
    by-fields : (fields : List (List ℕ)) → fields_of line ≡ fields → GoodLine limit (of_fields fields (behind_field line))
    by-fields [] is = tt
    by-fields (word ∷ more) is = text-word limit line word more content is
