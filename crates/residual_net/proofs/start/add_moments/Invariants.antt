use Rattle.std.proofs.Common.{◌≡◌, ◌++◌, map}
use Rattle.evac_law.specs.Sums.{below}
use Rattle.residual_net.specs.Start.{cell_at}
use Rattle.residual_net.proofs.start.add_moments.Given as goal

abbrev pub invariant-loop-moment : goal.invariant-loop-moment
invariant-loop-moment l = l.cells.items ≡ l.fn.cells.items ++ map (cell_at l.model l.kind l.number) (below l.moment)
