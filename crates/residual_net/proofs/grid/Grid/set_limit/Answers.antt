use Rattle.std.proofs.Common.{◌∙◌, List, ap, set}
use Rattle.residual_net.specs.declared.place.Cell.{Cell}
use Rattle.residual_net.specs.Network.{Network}
use Rattle.residual_net.specs.Start.{saved_cells}
use Rattle.residual_net.proofs.Saving.{limit_put}
use Rattle.residual_net.proofs.grid.Grid.set_limit.Goals as goal

pub returns-clause-set : goal.returns-clause-set
returns-clause-set c =
    let w = c.args.self.now in
    let g = c.self.inside in
    let cell : Cell = record { flow = c.get-flow.result.flow; limit = c.args.limit } in
    limit_put _ w c.args.place c.cell_number-at.result cell c.get-flow.ensures.grid c.requires c.cell_number-at.ensures.cell
    (ap (λ (z : Network). z.site) c.self.view_is)
    (ap (λ (z : Network). set z.cells c.cell_number-at.result cell) c.self.view_is)
    (c.write_saved.ensures.saved ∙ ap (λ (z : List Cell). saved_cells g.is_saved z g.saved.items) c.as_slice.ensures.value ∙ ap (λ (z : Network). z.saved) c.self.view_is)
    c.get-flow.ensures.flow
