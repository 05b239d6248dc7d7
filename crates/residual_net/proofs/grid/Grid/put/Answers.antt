use Rattle.std.proofs.Common.{◌≡◌, ℕ, ◌∙◌, List, ap, ap₂, set, get_or}
use Rattle.std.proofs.lemmas.List.{get_or_default}
use Rattle.residual_net.specs.declared.place.Cell.{Cell}
use Rattle.residual_net.specs.Network.{Network, limit_at, no_cell}
use Rattle.residual_net.specs.Site.{cell_of}
use Rattle.residual_net.proofs.Saving.{other_cells, same_limit_saved}
use Rattle.residual_net.proofs.grid.Grid.put.Goals as goal

pub returns-clause-put : goal.returns-clause-put
unfolding limit_at
returns-clause-put c =
    let w = c.args.self.now in
    let g = c.self.inside in
    let at = c.cell_number-at.result in
    let here = c.cell_number-at.ensures.cell in
    let flow = c.args.flow in
    let cell : Cell = record { flow = flow; limit = c.index_mut.result.now.limit } in
    let cells : g.cells.items ≡ w.cells = ap (λ (z : Network). z.cells) c.self.view_is in
    let within = rw (← c.self.view_is) at c.cell_number-at.ensures.within in
    let old : cell.limit ≡ (get_or g.cells.items at no_cell).limit =
    ap (λ (z : Cell). z.limit) (c.index_mut.ensures.value ∙ get_or_default g.cells.items at c.index_mut.result.now no_cell within) in
    let limit : cell.limit ≡ limit_at w c.args.place = old ∙ ap₂ (λ (l : List Cell) (i : ℕ). (get_or l i no_cell).limit) cells here in
    let put : Cell = record { flow = flow; limit = limit_at w c.args.place } in
    other_cells _ w (set w.cells (cell_of w.site c.args.place) put)
    (ap (λ (z : Network). z.site) c.self.view_is)
    (ap (λ (z : ℕ). set g.cells.items at (record { flow = flow; limit = z })) limit ∙ ap₂ (λ (l : List Cell) (i : ℕ). set l i put) cells here)
    (same_limit_saved g.is_saved g.cells.items g.saved.items at cell old ∙ ap (λ (z : Network). z.saved) c.self.view_is)
