use Rattle.std.proofs.Common.{◌∙◌, ◌++◌, ap, append-nil, sym}
use Rattle.residual_net.specs.Start.{row_cells}
use Rattle.residual_net.proofs.Begin.{rows_more}
use Rattle.residual_net.proofs.start.add_rows.Goals as goal

pub loop-number-init : goal.loop-number-init
loop-number-init c = sym (append-nil _)

pub loop-number-preserved : goal.loop-number-preserved
loop-number-preserved c =
    c.in_ok-add_row.ensures
    ∙ ap (λ l. l ++ row_cells c.args.model.now c.args.kind c.loop-number.number) c.loop-number.invariant
    ∙ rows_more c.args.cells.now.items c.args.model.now c.args.kind c.loop-number.number
