use Rattle.std.proofs.Common.{◌≡◌, length, take}
use Rattle.plan_layout.proofs.layout.put_nodes.Given as goal

abbrev pub invariant-loop-node : goal.invariant-loop-node
invariant-loop-node l = record {
  same : take l.node l.into ≡ take l.node l.nodes;
  long : length l.into ≡ length l.nodes;
}
