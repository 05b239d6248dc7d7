-- The rows of the storeys so far.
use Rattle.std.proofs.Common.{◌≡◌, ◌-◌, ◌++◌}
use Rattle.std.specs.List.{flat_map}
use Rattle.drill_building.specs.Drill.{ground_nodes, storey_nodes, storeys}
use Rattle.drill_building.proofs.rows.drill_nodes.Given as goal

abbrev pub invariant-loop-storey : goal.invariant-loop-storey
invariant-loop-storey l = l.nodes.items ≡ ground_nodes ++ flat_map storey_nodes (storeys (l.storey - 1))
