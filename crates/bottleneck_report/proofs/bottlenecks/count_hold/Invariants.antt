use Rattle.std.proofs.Common.{◌≡◌, ℕ, ◌≤◌, length}
use Rattle.std.specs.List.{list_any}
use Rattle.evac_law.specs.Sums.{below}
use Rattle.bottleneck_report.specs.Covers.{covers}
use Rattle.bottleneck_report.proofs.ItemLemmas.{is_held_out}
use Rattle.bottleneck_report.proofs.bottlenecks.count_hold.Given as goal

abbrev pub invariant-loop-moment : goal.invariant-loop-moment
invariant-loop-moment l = record {
  size : length l.ends ≡ length l.fn.ends;
  covered : (k : ℕ) → k ≤ l.model.horizon → covers l.ends k ≡ list_any (is_held_out l.model l.labels k l.node) (below l.moment);
}
