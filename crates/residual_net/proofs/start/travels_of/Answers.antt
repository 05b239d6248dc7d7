use Rattle.std.proofs.Common.{ap}
use Rattle.evac_law.specs.declared.model.ArcRow.{ArcRow}
use Rattle.residual_net.proofs.Begin.{map_ended, map_pushed}
use Rattle.residual_net.proofs.start.travels_of.Goals as goal

pub loop-arc-preserved : goal.loop-arc-preserved
loop-arc-preserved c =
    let travel = λ (arc : ArcRow). arc.travel in
    map_pushed travel _ _ c.arc-item.result (ap travel c.arc-item.is) c.loop-arc.invariant c.in_ok-push.ensures.items c.loop-arc-test.true

pub returns : goal.returns
returns c = map_ended (λ (arc : ArcRow). arc.travel) _ _ _ c.loop-arc.invariant c.as_slice-arc-items.ensures c.loop-arc-test.false
