use Rattle.std.proofs.Common.{◌≡◌, reverse}
use Rattle.residual_net.specs.Change.{IsLeastAlong, rank}
use Rattle.residual_net.specs.Site.{tail_of}
use Rattle.residual_net.proofs.Walks.{BackSoFar}
use Rattle.residual_net.proofs.cancel.walk_back.Given as goal

abbrev pub invariant-loop-node : goal.invariant-loop-node
invariant-loop-node l = record {
  room : l.path.room ≡ l.initial.path.room;
  back : BackSoFar l.grid l.fn.place l.here l.path.steps;
  people : IsLeastAlong l.grid (reverse l.path.steps) l.most l.people;
}

abbrev pub decreases-loop-node : goal.decreases-loop-node
decreases-loop-node l = rank (tail_of l.grid.site l.here)
