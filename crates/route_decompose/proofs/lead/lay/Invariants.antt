use Rattle.std.proofs.Common.{◌≡◌, ◌+◌, ◌-◌, ◌<◌, ◌≤◌, false, length}
use Rattle.evac_law.specs.Building.{is_exit_at}
use Rattle.route_decompose.specs.Stocks.{IsLeadable}
use Rattle.route_decompose.proofs.Laying.{IsOnWay}
use Rattle.route_decompose.proofs.lead.lay.Given as goal

abbrev pub invariant-loop-now : goal.invariant-loop-now
invariant-loop-now l = record {
  node_in : l.here < length l.store.model.nodes;
  leadable : is_exit_at l.store.model l.here ≡ false → IsLeadable l.store l.here l.now;
  some : 1 ≤ l.people;
  few : l.people ≤ l.most;
  room : length l.trail.steps + l.store.model.horizon ≤ l.trail.room + l.now;
  same_room : l.trail.room ≡ l.fn.trail.room;
  way : IsOnWay l.store l.node l.moment l.most l.trail.steps l.here l.now l.people;
}

abbrev pub decreases-loop-now : goal.decreases-loop-now
decreases-loop-now l = l.store.model.horizon + 1 - l.now
