use Rattle.std.proofs.Common.{◌≡◌, ◌≤◌, ◌*◌, ◌^◌, ◌==◌, ◌&&◌, cond, leb, take, sum_by}
use Rattle.evac_law.specs.Building.{tail}
use Rattle.plain_plan.proofs.plans.left.Given as goal

abbrev pub invariant-loop-step : goal.invariant-loop-step
invariant-loop-step l = record {
  value : l.people ≡ sum_by (λ v. cond (tail l.model v.arc == l.node && leb v.moment l.moment) v.people 0) (take l.step-index l.moves);
  few : l.people ≤ l.step-index * 2 ^ 32;
}
