use Rattle.std.proofs.Common.{◌≡◌}
use Rattle.std.specs.List.{filter}
use Rattle.evac_law.specs.Sums.{below}
use Rattle.floor_index.specs.Floors.{is_on}
use Rattle.floor_index.proofs.nodes_on.Given as goal

abbrev pub invariant-loop-node : goal.invariant-loop-node
invariant-loop-node l = l.nodes.items ≡ filter (is_on l.model l.floor) (below l.node)
