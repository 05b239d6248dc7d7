use Rattle.residual_net.specs.Site.{cell_of}
use Rattle.residual_net.proofs.Steps.{cell_in}
use Rattle.residual_net.proofs.grid.Grid.cell_number.Goals as goal

pub returns-in-Arc-clause-within : goal.returns-in-Arc-clause-within
unfolding cell_of
returns-in-Arc-clause-within c =
    let grid = rw c.self.view_is at c.self.invariant.0 in
    let below = cell_in c.args.self.now c.args.place grid c.requires in
    let here = rw (← c.self.view_is, c.in-Arc.is) at below in
    rw (c.arc_cell.ensures.cell, ← c.self.view_is) here

pub returns-in-Hold-clause-within : goal.returns-in-Hold-clause-within
unfolding cell_of
returns-in-Hold-clause-within c =
    let grid = rw c.self.view_is at c.self.invariant.0 in
    let below = cell_in c.args.self.now c.args.place grid c.requires in
    let here = rw (← c.self.view_is, c.in-Hold.is) at below in
    rw (c.hold_cell.ensures.cell, ← c.self.view_is) here

pub returns-in-Supply-clause-within : goal.returns-in-Supply-clause-within
unfolding cell_of
returns-in-Supply-clause-within c =
    let grid = rw c.self.view_is at c.self.invariant.0 in
    let below = cell_in c.args.self.now c.args.place grid c.requires in
    let here = rw (← c.self.view_is, c.in-Supply.is) at below in
    rw (c.cells.ensures.number, c.horizon.ensures, ← c.self.view_is) here
