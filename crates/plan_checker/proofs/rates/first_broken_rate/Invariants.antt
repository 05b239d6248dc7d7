use Rattle.std.proofs.Common.{ℕ, ◌<◌, ◌≤◌, get_or}
use Rattle.evac_law.specs.Building.{rate}
use Rattle.plan_checker.proofs.OrderedMoves.{no_move}
use Rattle.plan_checker.proofs.rates.first_broken_rate.Given as goal

abbrev pub invariant-loop-step : goal.invariant-loop-step
invariant-loop-step l =
    (j : ℕ) → j < l.step-index → (get_or l.moves j no_move).moment ≤ l.last
    → (get_or l.moves j no_move).people ≤ rate l.model (get_or l.moves j no_move).arc (get_or l.moves j no_move).moment
