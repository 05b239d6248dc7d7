use Rattle.std.proofs.Common.{◌≡◌, ℕ, ◌<◌, ◌≤◌}
use Rattle.evac_law.specs.Building.{entry}
use Rattle.plan_layout.specs.Tables.{people_at}
use Rattle.plan_layout.proofs.fill.fill_entries.Given as goal

abbrev pub invariant-loop-node : goal.invariant-loop-node
invariant-loop-node l = record {
  rows : l.table.rows ≡ l.fn.table.rows;
  last : l.table.last ≡ l.fn.table.last;
  cells : (n t : ℕ) → n < l.node → t ≤ l.fn.table.last → people_at l.table n t ≡ entry l.model n t;
}
