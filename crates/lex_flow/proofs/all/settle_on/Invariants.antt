use Rattle.std.proofs.Common.{◌≡◌, ◌+◌, ◌-◌, ◌≤◌}
use Rattle.lex_flow.specs.Settling.{IsSettledTo}
use Rattle.lex_flow.proofs.all.settle_on.Given as goal

abbrev pub invariant-loop-next : goal.invariant-loop-next
invariant-loop-next g l = record {
  settled : IsSettledTo l.fn.net l.net l.fn.labels l.labels l.from l.next l.pushes;
  horizon : l.horizon ≡ l.net.site.shape.horizon;
  next : l.next ≤ l.horizon + 1;
  search : l.search ≡ l.fn.search;
  ticked : l.steps ≡ l.fn.steps + l.pushes;
}

abbrev pub decreases-loop-next : goal.decreases-loop-next
decreases-loop-next g l = l.horizon + 1 - l.next
