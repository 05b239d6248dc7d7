use Rattle.std.proofs.Common.{◌∙◌, ap, length, subst, sym}
use Rattle.residual_net.specs.Site.{IsSite, all_cells}
use Rattle.residual_net.proofs.Begin.{cells_count, site_made, starts_made, valid_site}
use Rattle.residual_net.proofs.start.grid_of.Goals as goal

pub new-requires : goal.new-requires
new-requires c =
    let m = c.args.model.now in
    let site = site_made m c.in_ok-shape.shape c.in_ok-exits.exits.items c.in_ok-travels.travels.items c.in_ok-shape.ensures c.in_ok-exits.ensures
    c.in_ok-travels.ensures in
    record { site = subst IsSite (sym site) (valid_site m c.requires); full = ap length c.in_ok-cells.ensures ∙ cells_count m ∙ ap all_cells (sym site) }

pub returns : goal.returns
returns c =
    let m = c.args.model.now in
    let site = site_made m c.in_ok-shape.shape c.in_ok-exits.exits.items c.in_ok-travels.travels.items c.in_ok-shape.ensures c.in_ok-exits.ensures
    c.in_ok-travels.ensures in
    starts_made m c.in_ok-grid.grid _ _ c.requires c.in_ok-grid.ensures site c.in_ok-cells.ensures
