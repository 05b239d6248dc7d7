use Rattle.std.proofs.Common.{◌≡◌, ℕ, ◌<◌}
use Rattle.plan_layout.specs.Tables.{people_at}
use Rattle.route_decompose.proofs.people.first_in.Given as goal

abbrev pub invariant-loop-moment : goal.invariant-loop-moment
invariant-loop-moment l = (t : ℕ) → t < l.moment → people_at l.table l.row t ≡ 0
