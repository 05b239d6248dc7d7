-- Digits, one after the other, and the field of a number.
use Rattle.std.proofs.Common.{◌≡◌, ℕ, ◌+◌, ◌-◌, ◌*◌, ◌^◌, ◌<◌, ◌≤◌, suc, Bool, true, false, cond, ◌==◌, ◌||◌, nat_lt, nat_le, List, [], ◌∷◌, length, drop, get_or, refl, sym, ap, subst, ◌∙◌, arith, lit<, Some, None}
use Rattle.std.specs.Prelude.{decimal}
use Rattle.std.specs.Char.{is_ascii_digit}
use Rattle.std.specs.declared.option.Option.{Option}
use Rattle.std.proofs.Math.Nat.{pow-suc, pow-le-pow_right}
use Rattle.std.proofs.lemmas.Bool.{and_parts, eqb-false, leb-true, le-ltb, ltb-false, ne_eqb, or_parts}
use Rattle.std.proofs.lemmas.Fmt.{length-decimal-le}
use Rattle.std.proofs.lemmas.List.{at_drop_more, at_drop_all}
use Rattle.model_text.specs.Numbers.{digits_from, field_number}

pub digits-bad : (v : ℕ) (xs : List ℕ) (i : ℕ) → i < length xs → is_ascii_digit (get_or xs i 0) ≡ false → digits_from v (drop i xs) ≡ None
unfolding digits_from
digits-bad v xs i h bad =
    let b = get_or xs i 0 in
    let step : digits_from v (drop i xs) ≡ cond (is_ascii_digit b) (digits_from (v * 10 + (b - 48)) (drop (i + 1) xs)) None = at_drop_more (digits_from v) xs i 0 h in
    step ∙ ap (λ t. cond t (digits_from (v * 10 + (b - 48)) (drop (i + 1) xs)) None) bad

pub digits-good : (v : ℕ) (xs : List ℕ) (i : ℕ) → i < length xs → is_ascii_digit (get_or xs i 0) ≡ true → digits_from (v * 10 + (get_or xs i 0 - 48)) (drop (i + 1) xs) ≡ digits_from v (drop i xs)
unfolding digits_from
digits-good v xs i h good =
    let b = get_or xs i 0 in
    let step : digits_from v (drop i xs) ≡ cond (is_ascii_digit b) (digits_from (v * 10 + (b - 48)) (drop (i + 1) xs)) None = at_drop_more (digits_from v) xs i 0 h in
    sym (step ∙ ap (λ t. cond t (digits_from (v * 10 + (b - 48)) (drop (i + 1) xs)) None) good)

pub digits-end : (v : ℕ) (xs : List ℕ) (i : ℕ) → length xs ≤ i → digits_from v (drop i xs) ≡ Some v
unfolding digits_from
digits-end v xs i h = at_drop_all (digits_from v) xs i h

pub ten-more : (i v d : ℕ) → v < 10 ^ i → d < 10 → v * 10 + d < 10 ^ (i + 1)
ten-more i v d h g = let e : 10 ^ (i + 1) ≡ 10 ^ i * 10 = (ap (λ k. 10 ^ k) (let f : i + 1 ≡ suc i = omega arith in f)) ∙ pow-suc 10 i in omega arith

pub ten-small : (i : ℕ) → i ≤ 8 → 10 ^ i ≤ 100000000
ten-small i h = pow-le-pow_right {n = 10} (omega arith) {i = i} {j = 8} h

pub number-within : (xs : List ℕ) → 0 < length xs → length xs ≤ 9 → field_number xs ≡ digits_from 0 xs
number-within xs some few = rw (ne_eqb (length xs) 0 (λ e. omega arith), le-ltb 9 (length xs) few) refl

-- ---- the field of a number

-- a test that is false leaves the other value
pub some-by : {A : Type 0} (t : Bool) (o : Option A) (y : A) → cond t None o ≡ Some y → (t ≡ false) × (o ≡ Some y)
some-by true o y h = cc
some-by false o y h = (refl, h)

-- a field with a number has one to nine bytes, and they give it
pub record IsNumber (field : List ℕ) (n : ℕ) : Type 0 where
  pub some : 0 < length field
  pub few : length field ≤ 9
  pub digits : digits_from 0 field ≡ Some n

pub number-parts : (field : List ℕ) (n : ℕ) → field_number field ≡ Some n → IsNumber field n
number-parts field n h =
    let tests = some-by ((length field == 0) || nat_lt 9 (length field)) (digits_from 0 field) n h in
    let parts = or_parts (length field == 0) (nat_lt 9 (length field)) tests.0 in
    record {
      some = omega (arith, eqb-false (length field) 0 parts.0);
      few = ltb-false 9 (length field) parts.1;
      digits = tests.1;
    }

digit-small : (b : ℕ) → is_ascii_digit b ≡ true → b - 48 < 10
digit-small b h = let high = leb-true b 57 (and_parts (nat_le 48 b) (nat_le b 57) h).1 in omega arith

digits-small : (i v : ℕ) (xs : List ℕ) (n : ℕ) → v < 10 ^ i → digits_from v xs ≡ Some n → n < 10 ^ (i + length xs)
unfolding digits_from
digits-small i v [] n small h = let e : v ≡ n = cc in let none : i ≡ i + length {A = ℕ} [] = omega arith in rw (sym e, sym none) small
digits-small i v (b ∷ bs) n small h = by-digit (is_ascii_digit b) refl (λ digit. digits-small (i + 1) (v * 10 + (b - 48)) bs n (ten-more i v (b - 48) small (digit-small b digit))) h
  where
    by-digit : (t : Bool) → is_ascii_digit b ≡ t → (is_ascii_digit b ≡ true → digits_from (v * 10 + (b - 48)) bs ≡ Some n → n < 10 ^ (i + 1 + length bs))
        → cond t (digits_from (v * 10 + (b - 48)) bs) None ≡ Some n → n < 10 ^ (i + length (b ∷ bs))
    by-digit true digit ih more = let P : ℕ → Type 0 = λ k. n < 10 ^ k in let e : i + 1 + length bs ≡ i + length (b ∷ bs) = omega arith in subst P e (ih digit more)
    by-digit false digit ih more = cc

-- the text of a number is no longer than a field that gives it
pub length-decimal_field : (field : List ℕ) (n : ℕ) → field_number field ≡ Some n → length (decimal n) ≤ length field
length-decimal_field field n h =
    let parts = number-parts field n h in
    let small : n < 10 ^ length field = let below : n < 10 ^ (0 + length field) = digits-small 0 0 field n (lit< tt) parts.digits in let P : ℕ → Type 0 = λ k. n < 10 ^ k in
    let e : 0 + length field ≡ length field = omega arith in subst P e below in
    let most : 10 ^ length field ≤ 1000000000 = pow-le-pow_right {n = 10} (omega arith) {i = length field} {j = 9} parts.few in
    length-decimal-le (length field) n parts.some small (omega arith)
