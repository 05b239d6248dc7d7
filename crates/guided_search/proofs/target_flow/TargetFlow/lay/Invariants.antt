use Rattle.std.proofs.Common.{◌≡◌, ◌<◌, IfSome, vec_capacity}
use Rattle.guided_search.proofs.target_flow.TargetFlow.lay.Given as goal

abbrev pub invariant-loop-step : goal.invariant-loop-step
invariant-loop-step l = record {
  since : IfSome l.waited (λ since. since < l.self.sizes.moments);
  capacity : vec_capacity l.legs ≡ vec_capacity l.fn.legs;
}
