use Rattle.std.proofs.Common.{◌≡◌, ◌≤◌, ◌*◌, ◌^◌}
use Rattle.std.specs.List.{sum_by}
use Rattle.evac_law.specs.Sums.{below}
use Rattle.replan.specs.Committed.{moves_before}
use Rattle.replan.specs.Standing.{coming_out}
use Rattle.replan.proofs.gone.arrivals.Given as goal

abbrev pub invariant-loop-node : goal.invariant-loop-node
invariant-loop-node g l = record {
  counted : l.people ≡ sum_by (coming_out l.layout (moves_before l.from (g.F.Standing.stand l.standing).plan) l.moment) (below l.node);
  small : l.people ≤ l.node * 2 ^ 43;
}
