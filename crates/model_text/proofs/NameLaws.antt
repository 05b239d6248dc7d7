-- A field reads as a name exactly where it is the text of that name.
use Rattle.std.proofs.Common.{◌≡◌, ℕ, ◌+◌, ◌-◌, ◌*◌, ◌^◌, ◌<◌, ◌≤◌, zero, suc, Bool, true, false, cond, not, ◌&&◌, List, [], ◌∷◌, ◌++◌, length, take, drop, get_or, Some, None, refl, sym, ap, ap₂, subst, ◌∙◌, arith, rules, lit<, length-drop}
use Rattle.std.specs.Prelude.{decimal, option_and_then}
use Rattle.std.specs.declared.option.Option.{Option}
use Rattle.std.specs.Char.{is_ascii_digit}
use Rattle.std.specs.Str.{all_ascii_digits, bytes_eq}
use Rattle.std.specs.List.{position_or_len, before_first, after_first}
use Rattle.std.proofs.lemmas.Str.Parse.{IsNumeralModel, numerals_by_fold, tells_all_ascii_digits}
use Rattle.std.proofs.lemmas.Fmt.{digits_decimal, digits_value-decimal, decimal-digits_value, decimal_nonempty, length-decimal-le, first_decimal, decimal_digit}
use Rattle.std.proofs.lemmas.Bool.{eqb-false, eqb-true, le-ltb, ltb-false, ne_eqb, or_parts}
use Rattle.std.proofs.lemmas.List.{take-append-drop}
use Rattle.std.proofs.lemmas.List.Sums.{split_at_first, passes_at_first}
use Rattle.std.proofs.Math.Seq.{take-append_seam, drop-append-add}
use Rattle.std.proofs.lemmas.Slice.Eq.{bytes_eq-Decides}
use Rattle.evac_law.specs.Limits.{number_limit, floor_number_limit}
use Rattle.evac_law.specs.Names.{IsName, kind_text, name_text}
use Rattle.evac_law.specs.declared.name.NodeName.{NodeName}
use Rattle.evac_law.specs.declared.name.Kind.{Kind}
use Rattle.evac_law.specs.declared.name.Kind.TheVariants.{Work}
use Rattle.model_text.specs.Numbers.{digits_from, field_number, has_leading_zero, plain_number_of}
use Rattle.model_text.specs.NameFields.{kind_of, plain_within, is_dot, name_of, name_of_parts, number_part, floor_part}
use Rattle.model_text.proofs.NumberLemmas.{number-parts, some-by}

-- ---- options

pub then-some : {A B : Type 0} (o : Option A) (f : A → Option B) (y : B) → option_and_then f o ≡ Some y → (x : A) × ((o ≡ Some x) × (f x ≡ Some y))
then-some (Some x) f y e = (x, (refl, e))
then-some None f y e = cc

-- ---- letters

kind-by : (letters w : List ℕ) (k₀ k : Kind) (rest : Option Kind) (b : Bool) → bytes_eq letters w ≡ b → w ≡ kind_text k₀ → (rest ≡ Some k → letters ≡ kind_text k)
    → cond b (Some k₀) rest ≡ Some k → letters ≡ kind_text k
kind-by letters w k₀ k rest true e spelled other h = grind (arith, letters, bytes_eq-Decides)
kind-by letters w k₀ k rest false e spelled other h = other h

kind-step : (letters w : List ℕ) (k₀ k : Kind) (rest : Option Kind) → w ≡ kind_text k₀ → (rest ≡ Some k → letters ≡ kind_text k)
    → cond (bytes_eq letters w) (Some k₀) rest ≡ Some k → letters ≡ kind_text k
kind-step letters w k₀ k rest spelled other h = kind-by letters w k₀ k rest (bytes_eq letters w) refl spelled other h

-- letters of a kind are its text
pub kind-is : (letters : List ℕ) (k : Kind) → kind_of letters ≡ Some k → letters ≡ kind_text k
kind-is letters k h = grind (arith, kind-step, letters)

-- the text of a kind reads as the kind
pub kind-reads : (k : Kind) → kind_of (kind_text k) ≡ Some k
kind-reads Work = refl
kind-reads _ = refl

-- ---- numbers

-- the number whose first digits gave a number
abbrev read_on : ℕ → List ℕ → ℕ
read_on n [] = n
read_on n (b ∷ bs) = read_on (n * 10 + (b - 48)) bs

own : IsNumeralModel (λ bs. all_ascii_digits bs ≡ true) (read_on 0)
own = numerals_by_fold _ tells_all_ascii_digits read_on (search rules)

digits-by : (m : ℕ) (b : ℕ) (bs : List ℕ) (n : ℕ) (t : Bool) → is_ascii_digit b ≡ t → (digits_from (m * 10 + (b - 48)) bs ≡ Some n → (all_ascii_digits bs ≡ true) × (read_on (m * 10 + (b - 48)) bs ≡ n))
    → cond t (digits_from (m * 10 + (b - 48)) bs) None ≡ Some n → (all_ascii_digits (b ∷ bs) ≡ true) × (read_on m (b ∷ bs) ≡ n)
digits-by m b bs n true e ih h = let r = ih h in (rw e r.0, r.1)
digits-by m b bs n false e ih h = cc

-- digits that give a number are digits, and have that value
digits-are : (m : ℕ) (bs : List ℕ) (n : ℕ) → digits_from m bs ≡ Some n → (all_ascii_digits bs ≡ true) × (read_on m bs ≡ n)
unfolding digits_from
digits-are m [] n h = (refl, (let e : m ≡ n = cc in e))
digits-are m (b ∷ bs) n h = digits-by m b bs n (is_ascii_digit b) refl (digits-are (m * 10 + (b - 48)) bs n) h

give-by : (m b : ℕ) (bs : List ℕ) (t : Bool) → is_ascii_digit b ≡ t → (all_ascii_digits bs ≡ true → digits_from (m * 10 + (b - 48)) bs ≡ Some (read_on (m * 10 + (b - 48)) bs))
    → t && all_ascii_digits bs ≡ true → cond t (digits_from (m * 10 + (b - 48)) bs) None ≡ Some (read_on m (b ∷ bs))
give-by m b bs true e ih h = ih h
give-by m b bs false e ih h = cc

-- digits give their value
digits-give : (m : ℕ) (bs : List ℕ) → all_ascii_digits bs ≡ true → digits_from m bs ≡ Some (read_on m bs)
unfolding digits_from
digits-give m [] h = refl
digits-give m (b ∷ bs) h = give-by m b bs (is_ascii_digit b) refl (digits-give (m * 10 + (b - 48)) bs) h

-- a field that begins with 0 and has no leading zero is `0`
alone : (bs : List ℕ) → get_or bs 0 0 ≡ 48 → has_leading_zero bs ≡ false → 0 < length bs → length bs ≡ 1
alone [] first none some = absurd (omega arith)
alone (b ∷ []) first none some = refl
alone (b ∷ d ∷ ds) first none some = absurd (eqb-false b 48 none first)

-- a field that is read as a number without leading zeros is that number's text
plain-is : (bs : List ℕ) (n : ℕ) → n < 2 ^ 64 → plain_number_of bs ≡ Some n → bs ≡ decimal n
plain-is bs n small h =
    let a = some-by (has_leading_zero bs) (field_number bs) n h in
    let number = number-parts bs n a.1 in
    let d = digits-are 0 bs n number.digits in
    let value : read_on 0 bs ≡ n = d.1 in
    sym (decimal-digits_value own bs d.0 number.some (λ first. alone bs first a.0 number.some) (let e : read_on 0 bs < 2 ^ 64 = omega arith in e)) ∙ ap decimal value

reads-by : (bs : List ℕ) (n : ℕ) → has_leading_zero bs ≡ false → 0 < length bs → length bs ≤ 9 → digits_from 0 bs ≡ Some n → plain_number_of bs ≡ Some n
reads-by bs n plain some few h = rw (plain, ne_eqb (length bs) 0 (λ e. omega arith), le-ltb 9 (length bs) few) h

no-leading : (bs : List ℕ) → 48 < get_or bs 0 0 → has_leading_zero bs ≡ false
no-leading [] h = refl
no-leading (b ∷ []) h = refl
no-leading (b ∷ d ∷ ds) h = ne_eqb b 48 (λ e. omega arith)

decimal-plain : (n : ℕ) → n < 2 ^ 64 → has_leading_zero (decimal n) ≡ false
decimal-plain zero h = ap has_leading_zero (decimal_digit 0 (lit< tt))
decimal-plain (suc n) h = no-leading (decimal (suc n)) (first_decimal (suc n) (omega arith) h)

-- the text of a number reads as the number
pub plain-reads : (n : ℕ) → n < 10 ^ 9 → n < 2 ^ 64 → plain_number_of (decimal n) ≡ Some n
plain-reads n few small =
    reads-by (decimal n) n (decimal-plain n small) (decimal_nonempty n small) (length-decimal-le 9 n (lit< tt) few small)
    (digits-give 0 (decimal n) (digits_decimal own n small) ∙ ap Some (digits_value-decimal own n small))

-- a field that is read as a number within a range is its text
within-is : (low high : ℕ) (bs : List ℕ) (n : ℕ) → high < 2 ^ 64 → plain_within low high bs ≡ Some n → ((low ≤ n) × (n ≤ high)) × (bs ≡ decimal n)
within-is low high bs n small h = grind (arith, some-by, or_parts, ltb-false, plain-is)

-- the text of a number within a range reads as the number
within-reads : (low high n : ℕ) → low ≤ n → n ≤ high → n < 10 ^ 9 → n < 2 ^ 64 → plain_within low high (decimal n) ≡ Some n
within-reads low high n above below few small = grind (arith, plain-reads, le-ltb)

-- ---- dots

-- bytes with something after a dot are what comes before it, the dot, and what comes after it
dotted : (bs : List ℕ) → 0 < length (after_first is_dot bs) → bs ≡ before_first is_dot bs ++ (46 ∷ after_first is_dot bs)
dotted bs some =
    let at : position_or_len is_dot bs < length bs = omega (arith, length-drop (position_or_len is_dot bs + 1) bs) in
    split_at_first is_dot bs 0 at
    ∙ ap (λ d. before_first is_dot bs ++ (d ∷ after_first is_dot bs)) (eqb-true _ 46 (passes_at_first is_dot bs 0 at))

digit-first : (d : ℕ) (ds : List ℕ) → all_ascii_digits (d ∷ ds) ≡ true → (is_dot d ≡ false) × (all_ascii_digits ds ≡ true)
digit-first d ds h = let p = tells_all_ascii_digits.parts d ds h in (ne_eqb d 46 (λ e. omega (arith, p.0)), p.1)

-- the place of a dot after digits is their number
dot-place : (ds more : List ℕ) → all_ascii_digits ds ≡ true → position_or_len is_dot (ds ++ (46 ∷ more)) ≡ length ds
dot-place [] more h = refl
dot-place (d ∷ ds) more h =
    let t = digit-first d ds h in
    ap (λ b. cond (not b) (1 + position_or_len is_dot (ds ++ (46 ∷ more))) 0) t.0
    ∙ (let e : 1 + position_or_len is_dot (ds ++ (46 ∷ more)) ≡ length (d ∷ ds) = omega (arith, dot-place ds more t.1) in e)

before-dot : (ds more : List ℕ) → all_ascii_digits ds ≡ true → before_first is_dot (ds ++ (46 ∷ more)) ≡ ds
before-dot ds more h = ap (λ n. take n (ds ++ (46 ∷ more))) (dot-place ds more h) ∙ take-append_seam ds (46 ∷ more)

after-dot : (ds more : List ℕ) → all_ascii_digits ds ≡ true → after_first is_dot (ds ++ (46 ∷ more)) ≡ more
after-dot ds more h = ap (λ n. drop (n + 1) (ds ++ (46 ∷ more))) (dot-place ds more h) ∙ drop-append-add ds (46 ∷ more) 1

-- ---- names

kind-letters : (k : Kind) (more : List ℕ) → (take 2 (kind_text k ++ more) ≡ kind_text k) × (drop 2 (kind_text k ++ more) ≡ more)
kind-letters Work more = (refl, refl)
kind-letters _ more = (refl, refl)

number-fits : (n : ℕ) → n ≤ number_limit → (n < 10 ^ 9) × (n < 2 ^ 64)
unfolding number_limit
number-fits n h = (omega arith, omega arith)

floor-fits : (n : ℕ) → n ≤ floor_number_limit → (n < 10 ^ 9) × (n < 2 ^ 64)
unfolding floor_number_limit
floor-fits n h = (omega arith, omega arith)

number_limit-small : number_limit < 2 ^ 64
unfolding number_limit
number_limit-small = lit< tt

floor_number_limit-small : floor_number_limit < 2 ^ 64
unfolding floor_number_limit
floor_number_limit-small = lit< tt

abbrev make-name : Kind → ℕ → ℕ → NodeName
make-name k n f = record { kind = k; number = n; floor = f }

parts-give : (letters ns fs : List ℕ) (k : Kind) (n f : ℕ) → kind_of letters ≡ Some k → plain_within 1 number_limit ns ≡ Some n → plain_within 0 floor_number_limit fs ≡ Some f
    → name_of_parts letters ns fs ≡ Some (record { kind = k; number = n; floor = f })
parts-give letters ns fs k n f a b c = rw (a, b, c) refl

-- the text of a name reads as the name
pub text-reads : (name : NodeName) → IsName name → name_of (name_text name) ≡ Some name
unfolding name_of name_text
text-reads name is =
    let k = name.kind in
    let n = name.number in
    let f = name.floor in
    let rest : List ℕ = decimal n ++ (46 ∷ decimal f) in
    let fits = number-fits n is.number.1 in
    let fits-floor = floor-fits f is.floor in
    let digits = digits_decimal own n fits.1 in
    let letters = kind-letters k rest in
    let front : number_part (kind_text k ++ rest) ≡ decimal n = ap (before_first is_dot) letters.1 ∙ before-dot (decimal n) (decimal f) digits in
    let back : floor_part (kind_text k ++ rest) ≡ decimal f = ap (after_first is_dot) letters.1 ∙ after-dot (decimal n) (decimal f) digits in
    let read : name_of_parts (take 2 (kind_text k ++ rest)) (number_part (kind_text k ++ rest)) (floor_part (kind_text k ++ rest)) ≡ name_of_parts (kind_text k) (decimal n) (decimal f) =
    rw (letters.0, front, back) refl in
    read
    ∙ parts-give (kind_text k) (decimal n) (decimal f) k n f (kind-reads k) (within-reads 1 number_limit n is.number.0 is.number.1 fits.0 fits.1)
    (within-reads 0 floor_number_limit f (omega arith) is.floor fits-floor.0 fits-floor.1)

-- what a field that reads as a name is made of
pub record IsRead (field : List ℕ) (name : NodeName) : Type 0 where
  pub letters : take 2 field ≡ kind_text name.kind
  pub number : ((1 ≤ name.number) × (name.number ≤ number_limit)) × (number_part field ≡ decimal name.number)
  pub floor : ((0 ≤ name.floor) × (name.floor ≤ floor_number_limit)) × (floor_part field ≡ decimal name.floor)

parts-are : (field : List ℕ) (name : NodeName) → name_of field ≡ Some name → IsRead field name
unfolding name_of
parts-are field name h =
    let a = then-some (kind_of (take 2 field)) (λ k. option_and_then (λ n. option_and_then (λ f. Some (make-name k n f)) (plain_within 0 floor_number_limit (floor_part field))) (plain_within 1 number_limit (number_part field))) name h in
    let b = then-some (plain_within 1 number_limit (number_part field)) (λ n. option_and_then (λ f. Some (make-name a.0 n f)) (plain_within 0 floor_number_limit (floor_part field))) name a.1.1 in
    let c = then-some (plain_within 0 floor_number_limit (floor_part field)) (λ f. Some (make-name a.0 b.0 f)) name b.1.1 in
    let made : Some (make-name a.0 b.0 c.0) ≡ Some name = c.1.1 in
    let same : make-name a.0 b.0 c.0 ≡ name = cc in
    let P : NodeName → Type 0 = λ m. IsRead field m in
    subst P same (record {
      letters = kind-is (take 2 field) a.0 a.1.0;
      number = within-is 1 number_limit (number_part field) b.0 number_limit-small b.1.0;
      floor = within-is 0 floor_number_limit (floor_part field) c.0 floor_number_limit-small c.1.0;
    })

-- a field that reads as a name reads as a right one, and is its text
pub reads-right : (field : List ℕ) (name : NodeName) → name_of field ≡ Some name → IsName name
reads-right field name h = let p = parts-are field name h in record { number = p.number.0; floor = p.floor.0.1 }

pub reads-as-text : (field : List ℕ) (name : NodeName) → name_of field ≡ Some name → field ≡ name_text name
unfolding name_text
reads-as-text field name h =
    let p = parts-are field name h in
    let some : 0 < length (floor_part field) = let e = ap length p.floor.1 in let d = decimal_nonempty name.floor (floor-fits name.floor p.floor.0.1).1 in omega arith in
    sym (take-append-drop 2 field)
    ∙ ap₂ (λ a b. a ++ b) p.letters (dotted (drop 2 field) some ∙ ap₂ (λ a b. a ++ (46 ∷ b)) p.number.1 p.floor.1)
