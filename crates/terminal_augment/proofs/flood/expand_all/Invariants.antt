use Rattle.std.proofs.Common.{◌-◌, ◌≤◌, length}
use Rattle.terminal_augment.specs.Floods.{AreExpanded, IsFlooding, IsGrown}
use Rattle.terminal_augment.proofs.flood.expand_all.Given as goal

abbrev pub invariant-loop-front : goal.invariant-loop-front
invariant-loop-front l = record {
  flooding : IsFlooding l.net l.labels l.k l.queue;
  grown : IsGrown l.k l.fn.labels l.labels l.fn.queue l.queue;
  fits : l.front ≤ length l.queue.list;
  expanded : AreExpanded l.net l.labels l.k l.front l.queue.list;
}

abbrev pub decreases-loop-front : goal.decreases-loop-front
decreases-loop-front l = l.queue.room - l.front
