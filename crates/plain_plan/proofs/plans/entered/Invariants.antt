use Rattle.std.proofs.Common.{◌≡◌, ◌≤◌, ◌*◌, ◌^◌, sum_by}
use Rattle.evac_law.specs.Building.{entry}
use Rattle.evac_law.specs.Sums.{below}
use Rattle.plain_plan.proofs.plans.entered.Given as goal

abbrev pub invariant-loop-t : goal.invariant-loop-t
invariant-loop-t l = record {
  value : l.people ≡ sum_by (entry l.model l.node) (below l.t);
  few : l.people ≤ l.t * 2 ^ 32;
}
