use Rattle.std.proofs.Common.{◌≡◌, ◌-◌, ◌≤◌, ◌++◌, List, length}
use Rattle.route_decompose.specs.declared.route.RouteStep.{RouteStep}
use Rattle.cards.specs.Following.{IsComer}
use Rattle.cards.specs.Numbers.{FollowsNumbers}
use Rattle.cards.proofs.follow.follow.Given as goal

abbrev pub invariant-loop-comer : goal.invariant-loop-comer
invariant-loop-comer l = record {
  room : l.trail.room ≡ l.fn.trail.room;
  comer : IsComer l.counts.plan.model l.counts.plan.moves l.comer;
  few : length l.trail.steps ≤ l.comer.moment;
  follows : (more : List RouteStep) → FollowsNumbers l.counts.plan.model l.counts.plan.moves l.comer.node l.comer.number more
      → FollowsNumbers l.counts.plan.model l.counts.plan.moves l.fn.first.node l.fn.first.number (l.trail.steps ++ more);
}

abbrev pub decreases-loop-comer : goal.decreases-loop-comer
decreases-loop-comer l = l.counts.plan.model.horizon - l.comer.moment
