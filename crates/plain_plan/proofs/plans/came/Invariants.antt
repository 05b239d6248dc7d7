use Rattle.std.proofs.Common.{◌≡◌, ◌≤◌, ◌+◌, ◌*◌, ◌^◌, ◌==◌, ◌&&◌, cond, leb, take, sum_by}
use Rattle.evac_law.specs.Building.{arrival, entry, head}
use Rattle.evac_law.specs.Sums.{moments_to}
use Rattle.plain_plan.proofs.plans.came.Given as goal

abbrev pub invariant-loop-step : goal.invariant-loop-step
invariant-loop-step l = record {
  value : l.people ≡ sum_by (entry l.model l.node) (moments_to l.moment)
      + sum_by (λ v. cond (head l.model v.arc == l.node && leb (arrival l.model v.arc v.moment) l.moment) v.people 0) (take l.step-index l.moves);
  few : l.people ≤ 2 ^ 48 + l.step-index * 2 ^ 32;
}
