use Rattle.std.specs.List.{All}
use Rattle.residual_ways.specs.Ways.{IsWayWithin}
use Rattle.residual_ways.proofs.layout.add_arcs.Given as goal

abbrev pub invariant-loop-row : goal.invariant-loop-row
invariant-loop-row l = All (IsWayWithin l.sizes) l.ways.items
