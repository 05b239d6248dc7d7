use Rattle.std.proofs.Common.{◌≡◌, ℕ, ◌<◌, ◌≤◌}
use Rattle.plan_layout.specs.Tables.{people_at}
use Rattle.plan_layout.proofs.fill.fill_holds.Given as goal

abbrev pub invariant-loop-node : goal.invariant-loop-node
invariant-loop-node g l = record {
  rows : l.table.rows ≡ l.fn.table.rows;
  last : l.table.last ≡ l.fn.table.last;
  cells : (a t : ℕ) → a < l.node → t ≤ l.fn.table.last → people_at l.table a t ≡ (g.F.Standing.stand l.standing).contents a t;
}
