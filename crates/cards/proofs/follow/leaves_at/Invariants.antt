use Rattle.std.proofs.Common.{◌≤◌, ◌-◌}
use Rattle.evac_law.specs.Plans.{left}
use Rattle.cards.specs.Numbers.{count_before}
use Rattle.cards.proofs.follow.leaves_at.Given as goal

abbrev pub invariant-loop-comer : goal.invariant-loop-comer
invariant-loop-comer l = record {
  in_time : l.moment ≤ l.counts.plan.model.horizon;
  not_before : count_before (left l.counts.plan.model l.counts.plan.moves l.comer.node) l.moment ≤ l.comer.number;
}

abbrev pub decreases-loop-comer : goal.decreases-loop-comer
decreases-loop-comer l = l.counts.plan.model.horizon - l.moment
