use Rattle.std.proofs.Common.{◌≡◌, ◌+◌, ◌-◌}
use Rattle.residual_net.specs.Change.{IsLeastAlong, rank}
use Rattle.residual_net.specs.Site.{head_of}
use Rattle.residual_net.proofs.Walks.{OnSoFar}
use Rattle.residual_net.proofs.cancel.walk_on.Given as goal

abbrev pub invariant-loop-node : goal.invariant-loop-node
invariant-loop-node l = record {
  room : l.path.room ≡ l.initial.path.room;
  on : OnSoFar l.grid l.fn.place l.here l.path.steps;
  people : IsLeastAlong l.grid l.path.steps l.most l.people;
}

abbrev pub decreases-loop-node : goal.decreases-loop-node
decreases-loop-node l = l.grid.site.shape.horizon + 1 - rank (head_of l.grid.site l.here)
