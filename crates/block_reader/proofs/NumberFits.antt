-- The numbers of a line have nine digits at most.
use Rattle.std.proofs.Common.{◌≡◌, ℕ, ◌+◌, ◌-◌, ◌*◌, ◌^◌, ◌<◌, ◌≤◌, suc, Bool, true, false, ◌||◌, cond, nat_eq, nat_le, nat_lt, List, [], ◌∷◌, length, Some, None, refl, arith}
use Rattle.std.specs.Char.{is_ascii_digit}
use Rattle.std.proofs.Math.Nat.{mul_assoc, mul_comm, pow-le-pow_right, pow-suc}
use Rattle.std.proofs.lemmas.Bool.{and_parts, leb-true, ltb-false}
use Rattle.std.proofs.lemmas.Nat.{mul-le}
use Rattle.model_text.specs.Numbers.{digits_from, field_number}
use Rattle.certificate_text.specs.Block.{number_field_limit}

digit-small : (b : ℕ) → is_ascii_digit b ≡ true → b - 48 ≤ 9
digit-small b e = let p = and_parts (nat_le 48 b) (nat_le b 57) e in let q = leb-true b 57 p.1 in omega (arith, q)

ten-times : (v d k : ℕ) → d ≤ 9 → (v * 10 + d + 1) * 10 ^ k ≤ (v + 1) * 10 ^ suc k
ten-times v d k l = grind (arith, mul-le, mul_assoc, mul_comm, pow-suc)

digit-below : (b : ℕ) (bs : List ℕ) (v n : ℕ) (t : Bool) → is_ascii_digit b ≡ t
    → (digits_from (v * 10 + (b - 48)) bs ≡ Some n → n < (v * 10 + (b - 48) + 1) * 10 ^ length bs)
    → cond t (digits_from (v * 10 + (b - 48)) bs) None ≡ Some n → n < (v + 1) * 10 ^ suc (length bs)
digit-below b bs v n true d h e = let here = h e in let more = ten-times v (b - 48) (length bs) (digit-small b d) in omega (arith, here, more)
digit-below b bs v n false d h e = cc

digits-below : (xs : List ℕ) (v n : ℕ) → digits_from v xs ≡ Some n → n < (v + 1) * 10 ^ length xs
unfolding digits_from
digits-below [] v n e = let f : v ≡ n = cc in omega (arith, f)
digits-below (b ∷ bs) v n e = digit-below b bs v n (is_ascii_digit b) refl (digits-below bs (v * 10 + (b - 48)) n) e

number-by : (field : List ℕ) (n : ℕ) (s t : Bool) → nat_lt 9 (length field) ≡ t → cond (s || t) None (digits_from 0 field) ≡ Some n → n ≤ number_field_limit
unfolding number_field_limit
number-by field n true t f e = cc
number-by field n false true f e = cc
number-by field n false false f e = grind (arith, ltb-false, digits-below, pow-le-pow_right)

pub number-fits : (field : List ℕ) (n : ℕ) → field_number field ≡ Some n → n ≤ number_field_limit
number-fits field n e = number-by field n (nat_eq (length field) 0) (nat_lt 9 (length field)) refl e
