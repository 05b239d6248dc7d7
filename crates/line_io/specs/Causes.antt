-- When a source or a sink may answer that it failed: by its count of faults.
use Rattle.std.specs.Prelude.{◌≡◌, ℕ, ◌-◌, ◌^◌, ◌<◌, ◌≤◌, ◌⊎◌, None, Some, Result, OnOk, OnErr}
use Rattle.std.specs.declared.option.Option.{Option}

-- a count of faults: its number, and the last value of its counter, where it has one and stands from then on
pub record Count : Type 0 where
  pub number : ℕ
  pub last : Option ℕ

-- a number without a limit
abbrev pub unlimited : ℕ → Count
unlimited n = record { number = n; last = None }

-- the last value of a 64-bit counter
abbrev pub last_count : ℕ
last_count = 2 ^ 64 - 1

-- the value of a 64-bit counter
abbrev pub in_64_bits : ℕ → Count
in_64_bits n = record { number = n; last = Some last_count }

-- the count is greater than before; a counter may stand at its last value
pub record Rose (before now : Count) : Type 0 where
  pub no_less : before.number ≤ now.number
  pub greater : (before.number < now.number) ⊎ (now.last ≡ Some now.number)

-- `Ok` leaves the count as it was, and `Err` comes only where it rose
pub record HasCause {T E : Type 0} (before now : Count) (result : Result T E) : Type 0 where
  pub same : OnOk result (now ≡ before)
  pub failed : OnErr result (Rose before now)
