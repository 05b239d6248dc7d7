-- A name field: the letters of a kind, a number, a dot and a floor, as in `WP12.3`.
use Rattle.std.specs.Prelude.{ℕ, Bool, ◌||◌, ◌==◌, nat_lt, if◌then◌else◌, List, Some, None, option_and_then, codes, take, drop}
use Rattle.std.specs.declared.option.Option.{Option}
use Rattle.std.specs.List.{before_first, after_first}
use Rattle.std.specs.Str.{bytes_eq}
use Rattle.evac_law.specs.Limits.{number_limit, floor_number_limit}
use Rattle.evac_law.specs.declared.name.Kind.{Kind}
use Rattle.evac_law.specs.declared.name.Kind.TheVariants.{Work, Hall, Stair, Lobby, Exit}
use Rattle.evac_law.specs.declared.name.NodeName.{NodeName}
use Rattle.model_text.specs.Numbers.{plain_number_of}

-- the value, and what follows from it
infixl 10 ◌>>=◌
abbrev pub ◌>>=◌ : {A B : Type 0} → Option A → (A → Option B) → Option B
o >>= f = option_and_then f o

-- the kind of two letters
abbrev pub kind_of : List ℕ → Option Kind
kind_of letters =
    if bytes_eq letters (codes "WP") then Some Work
    else if bytes_eq letters (codes "HA") then Some Hall
    else if bytes_eq letters (codes "SW") then Some Stair
    else if bytes_eq letters (codes "LO") then Some Lobby
    else if bytes_eq letters (codes "DS") then Some Exit
    else None

-- a number without leading zeros, within a range
abbrev pub plain_within : ℕ → ℕ → List ℕ → Option ℕ
plain_within low high field = plain_number_of field >>= λ n. if nat_lt n low || nat_lt high n then None else Some n

abbrev pub is_dot : ℕ → Bool
is_dot b = b == 46

-- the name of two letters, a number and a floor
abbrev pub name_of_parts : List ℕ → List ℕ → List ℕ → Option NodeName
name_of_parts letters number floor =
    kind_of letters >>= λ k. plain_within 1 number_limit number >>= λ n. plain_within 0 floor_number_limit floor
    >>= λ f. Some (record { kind = k; number = n; floor = f })

-- what comes between the letters and the first dot, and after that dot; where there is no dot, nothing comes after it
abbrev pub number_part : List ℕ → List ℕ
number_part field = before_first is_dot (drop 2 field)

abbrev pub floor_part : List ℕ → List ℕ
floor_part field = after_first is_dot (drop 2 field)

-- the name of a field
unfoldable pub name_of : List ℕ → Option NodeName
name_of field = name_of_parts (take 2 field) (number_part field) (floor_part field)
