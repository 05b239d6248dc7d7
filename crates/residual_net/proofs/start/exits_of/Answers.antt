use Rattle.evac_law.specs.declared.model.NodeRow.{NodeRow}
use Rattle.evac_law.specs.Names.{is_exit}
use Rattle.residual_net.proofs.Begin.{map_ended, map_pushed}
use Rattle.residual_net.proofs.start.exits_of.Goals as goal

pub loop-node-preserved : goal.loop-node-preserved
loop-node-preserved c = map_pushed (λ (node : NodeRow). is_exit node.name.kind) _ _ _ c.is_exit.ensures c.loop-node.invariant c.in_ok-push.ensures.items c.loop-node-test.true

pub returns : goal.returns
returns c = map_ended (λ (node : NodeRow). is_exit node.name.kind) _ _ _ c.loop-node.invariant c.as_slice-node-items.ensures c.loop-node-test.false
