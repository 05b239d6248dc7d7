use Rattle.std.proofs.Common.{◌-◌}
use Rattle.residual_net.specs.Limits.{supply_limit}
use Rattle.residual_net.specs.Network.{arrived_by}
use Rattle.terminal_augment.specs.Searches.{KeepsBuffers}
use Rattle.terminal_augment.specs.Settled.{IsCountedOn}
use Rattle.terminal_augment.proofs.hint.send_hinted.Given as goal

abbrev pub invariant-loop-buffers : goal.invariant-loop-buffers
invariant-loop-buffers g l = record {
  buffers : KeepsBuffers l.fn.buffers l.buffers;
  counted : IsCountedOn l.fn.net l.net l.k l.pushes l.fn.steps l.steps;
}

abbrev pub decreases-loop-buffers : goal.decreases-loop-buffers
decreases-loop-buffers g l = supply_limit - arrived_by l.net l.k
