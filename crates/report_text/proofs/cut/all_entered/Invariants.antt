use Rattle.std.proofs.Common.{◌≡◌, ◌≤◌, ◌*◌, ◌^◌}
use Rattle.std.specs.List.{sum_by}
use Rattle.evac_law.specs.Building.{entry}
use Rattle.evac_law.specs.Sums.{below, moments_to}
use Rattle.report_text.proofs.cut.all_entered.Given as goal

abbrev pub invariant-loop-node : goal.invariant-loop-node
invariant-loop-node l = record {
  people : l.people ≡ sum_by (λ n. sum_by (entry l.model n) (moments_to l.k)) (below l.node);
  few : l.people ≤ l.node * 2 ^ 48;
}
