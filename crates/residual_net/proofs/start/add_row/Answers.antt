use Rattle.std.proofs.Common.{◌≡◌, ◌++◌}
use Rattle.std.proofs.lemmas.Result.{IfOk-weaker}
use Rattle.residual_net.specs.Start.{row_cells}
use Rattle.residual_net.proofs.Begin.{row_opened}
use Rattle.residual_net.proofs.start.add_row.Goals as goal

pub returns-in_ok-add_cells-in-Some : goal.returns-in_ok-add_cells-in-Some
returns-in_ok-add_cells-in-Some c =
    let m = c.args.model.now in
    let old = c.args.cells.now.items in
    let new = c.add_cells-in-Some.new.cells.items in
    IfOk-weaker c.add_cells-in-Some.result _ (λ _. new ≡ old ++ row_cells m c.args.kind c.args.number)
    (λ _ last. row_opened old c.add_cells.new.cells.items new m c.args.kind c.args.number c.in-Some.opening c.in-Some.ensures c.in_ok-add_cells-in-Some.ensures last)
    c.add_cells-in-Some.ensures
