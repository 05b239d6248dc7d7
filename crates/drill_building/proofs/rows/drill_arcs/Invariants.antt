-- The rows of the storeys so far.
use Rattle.std.proofs.Common.{◌≡◌, ◌-◌, ◌++◌}
use Rattle.std.specs.List.{flat_map}
use Rattle.drill_building.specs.Drill.{ground_arcs, storey_arcs, storeys}
use Rattle.drill_building.proofs.rows.drill_arcs.Given as goal

abbrev pub invariant-loop-storey : goal.invariant-loop-storey
invariant-loop-storey l = l.arcs.items ≡ ground_arcs ++ flat_map storey_arcs (storeys (l.storey - 1))
