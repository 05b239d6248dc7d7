-- The laws on rates.
use Rattle.std.specs.Prelude.{ℕ, ◌<◌, ◌≤◌, length}
use Rattle.evac_law.specs.declared.model.Model.{Model}
use Rattle.evac_law.specs.Building.{IsValid}
use Rattle.evac_law.specs.Limits.{rate_limit}
use Rattle.exit_study.specs.Rates.{IsEnough, IsTooSlow, at_rate}

-- a rate that is enough stays enough when it grows
abbrev pub EnoughStays : Type 0
EnoughStays = (m : Model) (a k r s : ℕ) → a < length m.arcs → r ≤ s → IsEnough m a k r → IsEnough m a k s

-- a rate that a cut shows too slow isn't enough
abbrev pub TooSlowIsNotEnough : Type 0
TooSlowIsNotEnough =
    (m : Model) (a k r : ℕ) → IsValid m → a < length m.arcs → r ≤ rate_limit → k ≤ m.horizon → IsTooSlow (at_rate m a r) k → ¬ IsEnough m a k r
