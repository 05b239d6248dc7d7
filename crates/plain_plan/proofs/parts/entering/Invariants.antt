use Rattle.std.proofs.Common.{◌≡◌, ◌≤◌, ◌==◌, ◌&&◌, cond, take, sum_by}
use Rattle.plain_plan.proofs.parts.entering.Given as goal

abbrev pub invariant-loop-entrant : goal.invariant-loop-entrant
invariant-loop-entrant l = record {
  value : l.people ≡ sum_by (λ e. cond (e.node == l.node && e.moment == l.moment) e.people 0) (take l.entrant-index l.entrants);
  few : l.people ≤ sum_by (λ e. e.people) (take l.entrant-index l.entrants);
}
