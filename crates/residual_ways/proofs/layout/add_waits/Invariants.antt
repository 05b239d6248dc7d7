use Rattle.std.specs.List.{All}
use Rattle.residual_ways.specs.Ways.{IsWayWithin}
use Rattle.residual_ways.proofs.layout.add_waits.Given as goal

abbrev pub invariant-loop-node : goal.invariant-loop-node
invariant-loop-node l = All (IsWayWithin l.sizes) l.ways.items
