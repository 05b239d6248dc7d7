-- A number field: one to nine decimal digits.
use Rattle.std.specs.Prelude.{ℕ, ◌+◌, ◌-◌, ◌*◌, Bool, false, ◌||◌, ◌==◌, nat_lt, if◌then◌else◌, List, [], ◌∷◌, length, Some, None}
use Rattle.std.specs.declared.option.Option.{Option}
use Rattle.std.specs.Char.{is_ascii_digit}

-- the number whose first digits gave `before`
unfoldable pub digits_from : ℕ → List ℕ → Option ℕ
digits_from before [] = Some before
digits_from before (b ∷ bs) = if is_ascii_digit b then digits_from (before * 10 + (b - 48)) bs else None

-- the number of a field, where it has one to nine bytes, each a digit
abbrev pub field_number : List ℕ → Option ℕ
field_number field = if (length field == 0) || nat_lt 9 (length field) then None else digits_from 0 field

-- whether a field has a leading zero: a 0 before something
abbrev pub has_leading_zero : List ℕ → Bool
has_leading_zero (b ∷ d ∷ ds) = b == 48
has_leading_zero _ = false

-- the number of a field without leading zeros; `0` itself is right
abbrev pub plain_number_of : List ℕ → Option ℕ
plain_number_of field = if has_leading_zero field then None else field_number field
