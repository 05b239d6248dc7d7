use Rattle.std.proofs.Common.{◌≡◌, ◌++◌, drop, map, take}
use Rattle.residual_net.specs.Legs.{with_more}
use Rattle.residual_net.proofs.grid.raise_all.Given as goal

abbrev pub invariant-loop-cell : goal.invariant-loop-cell
invariant-loop-cell l = l.cells ≡ map (with_more l.people) (take l.cell-index l.fn.cells) ++ drop l.cell-index l.fn.cells
