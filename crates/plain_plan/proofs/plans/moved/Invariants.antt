use Rattle.std.proofs.Common.{◌≡◌, ◌≤◌, ◌*◌, ◌^◌, ◌==◌, ◌&&◌, cond, take, sum_by}
use Rattle.plain_plan.proofs.plans.moved.Given as goal

abbrev pub invariant-loop-step : goal.invariant-loop-step
invariant-loop-step l = record {
  value : l.people ≡ sum_by (λ v. cond (v.arc == l.arc && v.moment == l.moment) v.people 0) (take l.step-index l.moves);
  few : l.people ≤ l.step-index * 2 ^ 32;
}
