use Rattle.std.proofs.Common.{◌≡◌, map, take}
use Rattle.evac_law.specs.declared.model.NodeRow.{NodeRow}
use Rattle.evac_law.specs.Names.{is_exit}
use Rattle.residual_net.proofs.start.exits_of.Given as goal

abbrev pub invariant-loop-node : goal.invariant-loop-node
invariant-loop-node l = l.exits.items ≡ map (λ (n : NodeRow). is_exit n.name.kind) (take l.node-index l.node-items)
