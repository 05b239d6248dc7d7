use Rattle.std.proofs.Common.{◌≡◌, ◌+◌, ◌-◌, ◌≤◌, ◌⊎◌}
use Rattle.plan_layout.specs.Tables.{people_at}
use Rattle.route_decompose.specs.Stocks.{AllStay, IsLeadable, Stay}
use Rattle.route_decompose.proofs.lead.stay.Given as goal

abbrev pub invariant-loop-held : goal.invariant-loop-held
invariant-loop-held l = record {
  leadable : IsLeadable l.store l.node l.until;
  here : l.held ≡ people_at l.store.holds l.node l.until;
  later : l.moment ≤ l.until;
  some : 1 ≤ l.people;
  most : l.people ≤ l.most;
  stay : Stay l.store l.node l.moment l.until l.people;
  all : (l.people ≡ l.most) ⊎ AllStay l.store l.node l.moment l.until l.people;
}

abbrev pub decreases-loop-held : goal.decreases-loop-held
decreases-loop-held l = l.store.model.horizon + 1 - l.until
