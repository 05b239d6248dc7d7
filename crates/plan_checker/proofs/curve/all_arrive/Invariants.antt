use Rattle.std.proofs.Common.{ℕ, ◌<◌, ◌≤◌, get_or}
use Rattle.evac_law.specs.Building.{arrival}
use Rattle.evac_law.specs.declared.plan.Move.{Move}
use Rattle.plan_checker.proofs.curve.all_arrive.Given as goal

abbrev pub invariant-loop-step : goal.invariant-loop-step
invariant-loop-step l = (j : ℕ) (d : Move) → j < l.step-index → arrival l.model (get_or l.moves j d).arc (get_or l.moves j d).moment ≤ l.last
