use Rattle.std.proofs.Common.{◌≡◌, map, take}
use Rattle.replan.specs.Rest.{without_start}
use Rattle.replan.proofs.rest.without_start.Given as goal

abbrev pub invariant-loop-node : goal.invariant-loop-node
invariant-loop-node l = l.rows.items ≡ map without_start (take l.node-index l.nodes)
