use Rattle.std.proofs.Common.{◌≡◌, ◌<◌, ◌≤◌, true}
use Rattle.terminal_augment.specs.Chains.{spots}
use Rattle.terminal_augment.specs.Floods.{IsFlooding, IsGrown, IsWayDone}
use Rattle.terminal_augment.specs.Spots.{has}
use Rattle.terminal_augment.specs.Ways.{way_before}
use Rattle.terminal_augment.proofs.flood.meet_before.Given as goal

abbrev pub invariant-loop-moment : goal.invariant-loop-moment
invariant-loop-moment l = record {
  within : l.moment ≤ l.fn.spot.moment;
  flooding : IsFlooding l.net l.labels l.k l.queue;
  met : has (spots l.queue.list) l.fn.spot.node l.moment ≡ true;
  grown : IsGrown l.k l.fn.labels l.labels l.fn.queue l.queue;
  done : l.moment < l.fn.spot.moment → IsWayDone l.net l.labels l.k (way_before l.fn.spot.node l.fn.spot.moment);
}

abbrev pub decreases-loop-moment : goal.decreases-loop-moment
decreases-loop-moment l = l.moment
