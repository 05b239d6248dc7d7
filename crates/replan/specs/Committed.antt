-- A plan cut at a moment: the moves that are made by then, and who is out by them.
use Rattle.std.specs.Prelude.{◌≡◌, ℕ, ◌<◌, nat_le, nat_lt, List}
use Rattle.std.specs.List.{filter}
use Rattle.evac_law.specs.declared.model.Model.{Model}
use Rattle.evac_law.specs.declared.plan.Move.{Move}
use Rattle.evac_law.specs.Plans.{moved, out_by}

-- the moves of a plan before a moment, which are made, and those from it on
abbrev pub moves_before : ℕ → List Move → List Move
moves_before s p = filter (λ v. nat_lt v.moment s) p

abbrev pub moves_from : ℕ → List Move → List Move
moves_from s p = filter (λ v. nat_le s v.moment) p

-- the people whom the moves before a moment bring out by k
abbrev pub gone_by : Model → List Move → ℕ → ℕ → ℕ
gone_by m p s k = out_by m (moves_before s p) k

-- before a moment two plans do the same: as many people enter each arc at each moment
abbrev pub SharesMoves : ℕ → List Move → List Move → Type 0
SharesMoves s p q = (a t : ℕ) → t < s → moved q a t ≡ moved p a t
