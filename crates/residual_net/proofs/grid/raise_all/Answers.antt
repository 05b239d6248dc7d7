use Rattle.std.proofs.Common.{◌≡◌, get_or, arith}
use Rattle.std.proofs.lemmas.List.{get_or_default}
use Rattle.std.proofs.lemmas.List.Edits.{map_over_more}
use Rattle.residual_net.specs.Legs.{with_more}
use Rattle.residual_net.specs.Network.{no_cell}
use Rattle.residual_net.proofs.grid.raise_all.Goals as goal

pub loop-cell-preserved : goal.loop-cell-preserved
loop-cell-preserved c =
    let i = c.loop-cell.cell-index in
    let cell = get_or c.loop-cell.cells i no_cell in
    rw c.flow_with-cell.ensures
    (map_over_more (with_more c.args.people) c.args.cells.now c.loop-cell.cells i cell c.loop-cell-test.true c.loop-cell.invariant
    (let same : cell ≡ get_or c.loop-cell.cells i cell = get_or_default c.loop-cell.cells i no_cell cell (omega (arith, c.loop-cell-test.true, c.loop-cell.auto.cells)) in same))
