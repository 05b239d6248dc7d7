use Rattle.std.proofs.Common.{◌≡◌, ◌≤◌, ◌*◌, ◌^◌, ◌&&◌, cond, leb, take, sum_by}
use Rattle.evac_law.specs.Building.{arrival, head, is_exit_at}
use Rattle.plain_plan.proofs.plans.out_by.Given as goal

abbrev pub invariant-loop-step : goal.invariant-loop-step
invariant-loop-step l = record {
  value : l.people ≡ sum_by (λ v. cond (is_exit_at l.model (head l.model v.arc) && leb (arrival l.model v.arc v.moment) l.moment) v.people 0) (take l.step-index l.moves);
  few : l.people ≤ l.step-index * 2 ^ 32;
}
