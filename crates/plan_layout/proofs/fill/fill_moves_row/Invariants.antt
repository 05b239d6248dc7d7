use Rattle.std.proofs.Common.{◌≡◌, ℕ, ◌<◌}
use Rattle.evac_law.specs.Plans.{moved}
use Rattle.plan_layout.specs.Tables.{people_at}
use Rattle.plan_layout.proofs.fill.fill_moves_row.Given as goal

abbrev pub invariant-loop-moment : goal.invariant-loop-moment
invariant-loop-moment g l = record {
  rows : l.table.rows ≡ l.fn.table.rows;
  last : l.table.last ≡ l.fn.table.last;
  row : (k : ℕ) → k < l.moment → people_at l.table l.arc k ≡ moved (g.F.Standing.stand l.standing).plan l.arc k;
  others : (i k : ℕ) → i < l.arc → people_at l.table i k ≡ people_at l.fn.table i k;
}
