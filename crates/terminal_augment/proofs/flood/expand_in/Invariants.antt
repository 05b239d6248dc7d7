use Rattle.std.proofs.Common.{ℕ, ◌<◌, get_or}
use Rattle.time_expansion.specs.Expansion.{arcs_to}
use Rattle.terminal_augment.specs.Floods.{IsFlooding, IsGrown, IsWayDone}
use Rattle.terminal_augment.specs.Ways.{way_in}
use Rattle.terminal_augment.proofs.flood.expand_in.Given as goal

abbrev pub invariant-loop-i : goal.invariant-loop-i
invariant-loop-i l = record {
  flooding : IsFlooding l.net l.labels l.k l.queue;
  grown : IsGrown l.k l.fn.labels l.labels l.fn.queue l.queue;
  done : (j : ℕ) → j < l.i → IsWayDone l.net l.labels l.k (way_in l.net.site (get_or (arcs_to l.net.site.shape l.fn.spot.node) j 0) l.fn.spot.moment);
}
