use Rattle.std.proofs.Common.{◌≡◌, ℕ, ◌<◌, ◌≤◌}
use Rattle.evac_law.specs.Plans.{moved}
use Rattle.plan_layout.specs.Tables.{people_at}
use Rattle.plan_layout.proofs.fill.fill_moves.Given as goal

abbrev pub invariant-loop-arc : goal.invariant-loop-arc
invariant-loop-arc g l = record {
  rows : l.table.rows ≡ l.fn.table.rows;
  last : l.table.last ≡ l.fn.table.last;
  cells : (a t : ℕ) → a < l.arc → t ≤ l.fn.table.last → people_at l.table a t ≡ moved (g.F.Standing.stand l.standing).plan a t;
}
