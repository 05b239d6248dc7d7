use Rattle.std.proofs.Common.{◌≡◌, ℕ, ◌<◌}
use Rattle.evac_law.specs.Building.{entry}
use Rattle.plan_layout.specs.Tables.{people_at}
use Rattle.plan_layout.proofs.fill.fill_entries_row.Given as goal

abbrev pub invariant-loop-moment : goal.invariant-loop-moment
invariant-loop-moment l = record {
  rows : l.table.rows ≡ l.fn.table.rows;
  last : l.table.last ≡ l.fn.table.last;
  row : (k : ℕ) → k < l.moment → people_at l.table l.node k ≡ entry l.model l.node k;
  others : (i k : ℕ) → i < l.node → people_at l.table i k ≡ people_at l.fn.table i k;
}
