use Rattle.std.proofs.Common.{◌-◌}
use Rattle.residual_net.specs.Limits.{supply_limit}
use Rattle.residual_net.specs.Network.{arrived_by}
use Rattle.terminal_augment.specs.Floods.{HaveSameLabels}
use Rattle.terminal_augment.specs.Searches.{AreBuffers}
use Rattle.terminal_augment.specs.Settled.{IsCountedOn, IsSettledBelow}
use Rattle.terminal_augment.proofs.moment.settle_with.Given as goal

abbrev pub invariant-loop-found : goal.invariant-loop-found
invariant-loop-found g l = record {
  settled : IsSettledBelow l.net l.labels l.k;
  alike : HaveSameLabels l.fn.labels l.labels;
  buffers : AreBuffers l.net.site.shape.nodes l.net.site.shape.horizon l.buffers;
  counted : IsCountedOn l.fn.net l.net l.k l.pushes l.fn.steps l.steps;
}

abbrev pub decreases-loop-found : goal.decreases-loop-found
decreases-loop-found g l = supply_limit - arrived_by l.net l.k
