-- Tables of a model's sizes are a stock.
use Rattle.std.proofs.Common.{◌≡◌, sym, subst, length}
use Rattle.evac_law.specs.declared.model.Model.{Model}
use Rattle.evac_law.specs.Building.{IsValid}
use Rattle.plan_layout.specs.Tables.{PeopleTable}
use Rattle.route_decompose.specs.Stocks.{IsStock, Stock}

abbrev pub stock_with : Model → PeopleTable → PeopleTable → PeopleTable → Stock
stock_with m left holds waiting = record { model = m; left = left; holds = holds; waiting = waiting }

pub stock_made : (m w : Model) (left holds waiting : PeopleTable) → IsValid m → w ≡ m → left.rows ≡ length m.arcs → left.last ≡ m.horizon
    → holds.rows ≡ length m.nodes → holds.last ≡ m.horizon → waiting.rows ≡ length m.nodes → waiting.last ≡ m.horizon
    → IsStock (stock_with w left holds waiting)
stock_made m w left holds waiting valid e a b c d f g =
    let P : Model → Type 0 = λ x. IsStock (stock_with x left holds waiting) in
    subst P (sym e) (record { valid = valid; left_rows = a; left_last = b; hold_rows = c; hold_last = d; wait_rows = f; wait_last = g })
