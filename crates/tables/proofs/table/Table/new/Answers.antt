use Rattle.std.proofs.Common.{◌+◌, ◌*◌}
use Rattle.std.proofs.Math.Nat.{sub-zero}
use Rattle.std.proofs.Math.Seq.{take-nil}
use Rattle.tables.proofs.TableLemmas.{item_at-replicate}
use Rattle.tables.proofs.table.Table.new.Goals as goal

pub returns-clause-items : goal.returns-clause-items
returns-clause-items g c n t =
    rw (c.in_ok-resize.ensures.items, c.new-items.ensures.items, c.new-items.ensures.len, take-nil (c.args.rows * (c.args.last + 1)), sub-zero)
    (item_at-replicate c.args.item c.args.rows c.args.last n t)
