use Rattle.std.proofs.Common.{◌≡◌, ◌+◌, ◌≤◌, ◌⊎◌}
use Rattle.route_decompose.specs.Stocks.{AllStay, LedEarlier, Stay, used}
use Rattle.route_decompose.proofs.lead.take_stay.Given as goal

abbrev pub invariant-loop-left : goal.invariant-loop-left
invariant-loop-left l = record {
  later : l.moment ≤ l.left;
  left_in : l.left ≤ l.until;
  model : l.store.model ≡ l.fn.store.model;
  rows : l.store.holds.rows ≡ l.fn.store.holds.rows;
  last : l.store.holds.last ≡ l.fn.store.holds.last;
  stay : Stay l.store l.node l.moment l.left l.people;
  led : LedEarlier l.fn.store l.store l.node l.left l.until l.people;
  fewer : used l.store ≤ used l.fn.store;
  emptied : AllStay l.fn.store l.node l.moment l.until l.people → (used l.store + 1 ≤ used l.fn.store) ⊎ AllStay l.store l.node l.moment l.left l.people;
}

abbrev pub decreases-loop-left : goal.decreases-loop-left
decreases-loop-left l = l.left
