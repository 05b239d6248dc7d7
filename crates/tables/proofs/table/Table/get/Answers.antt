use Rattle.std.proofs.Common.{◌<◌, ◌≤◌, ◌∙◌, ap, arith, sym}
use Rattle.std.proofs.lemmas.List.{get_or_read}
use Rattle.tables.specs.Tables.{TableView}
use Rattle.tables.proofs.TableLemmas.{item_at-within, place_below}
use Rattle.tables.proofs.table.Table.get.Goals as goal

pub returns : goal.returns
returns g c d =
    let s = c.self.inside in
    let row : c.args.row < s.rows = omega (arith, ap (λ (x : TableView g.row.T.Denot). x.rows) c.self.view_is, c.requires.row_in) in
    let moment : c.args.moment ≤ s.last = omega (arith, ap (λ (x : TableView g.row.T.Denot). x.last) c.self.view_is, c.requires.moment_in) in
    rw (← c.self.view_is)
    (get_or_read s.items.items _ _ (place_below _ c.args.row c.args.moment c.self.invariant row moment) c.index.ensures d
    ∙ sym (item_at-within d _ c.args.row c.args.moment row moment))
