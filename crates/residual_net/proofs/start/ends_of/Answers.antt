use Rattle.std.proofs.Common.{ap}
use Rattle.residual_net.proofs.Begin.{joined, map_ended, map_pushed}
use Rattle.residual_net.proofs.start.ends_of.Goals as goal

pub loop-arc-preserved : goal.loop-arc-preserved
loop-arc-preserved c = map_pushed joined _ _ c.arc-item.result (ap joined c.arc-item.is) c.loop-arc.invariant c.in_ok-push.ensures.items c.loop-arc-test.true

pub returns : goal.returns
returns c = map_ended joined _ _ _ c.loop-arc.invariant c.as_slice-arc-items.ensures c.loop-arc-test.false
