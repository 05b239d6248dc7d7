use Rattle.std.proofs.Common.{ap, arith}
use Rattle.tables.specs.Tables.{TableView}
use Rattle.tables.proofs.TableLemmas.{is_put}
use Rattle.tables.proofs.table.Table.put.Goals as goal

pub returns : goal.returns
returns g c =
    let s = c.self.inside in
    rw (← c.self.view_is)
    (is_put (record { rows = s.rows; last = s.last; items = s.items.items }) c.args.row c.args.moment c.args.item c.self.invariant
    (omega (arith, ap (λ (x : TableView g.row.T.Denot). x.rows) c.self.view_is, c.requires.row_in)) (omega (arith, ap (λ (x : TableView g.row.T.Denot). x.last) c.self.view_is, c.requires.moment_in)))
