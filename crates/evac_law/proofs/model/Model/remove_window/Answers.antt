use Rattle.evac_law.proofs.RowLemmas.{arc_again}
use Rattle.evac_law.proofs.model.Model.remove_window.Goals as goal

pub returns : goal.returns
returns c = rw (c.put.ensures, c.remove_window.ensures, c.take_arc-row.ensures.rest, c.take_arc-row.ensures.row) (arc_again _ c.args.arc _ _)
