use Rattle.std.proofs.Common.{◌≡◌, ℕ, ◌≤◌, ◌<◌}
use Rattle.evac_law.specs.Plans.{left}
use Rattle.plan_layout.specs.Tables.{people_at}
use Rattle.cards.proofs.fill.fill_left.Given as goal

abbrev pub invariant-loop-node : goal.invariant-loop-node
invariant-loop-node l = record {
  rows : l.table.rows ≡ l.fn.table.rows;
  last : l.table.last ≡ l.fn.table.last;
  cells : (n t : ℕ) → n < l.node → t ≤ l.plan.model.horizon → people_at l.table n t ≡ left l.plan.model l.plan.moves n t;
}
