use Rattle.std.proofs.Common.{◌≡◌, ◌≤◌, ◌*◌, ◌^◌}
use Rattle.std.specs.List.{sum_by}
use Rattle.evac_law.specs.Building.{entry}
use Rattle.evac_law.specs.Sums.{below}
use Rattle.report_text.proofs.cut.entered.Given as goal

abbrev pub invariant-loop-moment : goal.invariant-loop-moment
invariant-loop-moment l = record {
  people : l.people ≡ sum_by (entry l.model l.node) (below l.moment);
  few : l.people ≤ l.moment * 2 ^ 32;
}
