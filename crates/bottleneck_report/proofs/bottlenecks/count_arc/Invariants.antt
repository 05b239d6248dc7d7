use Rattle.std.proofs.Common.{◌≡◌, ℕ, ◌≤◌, length}
use Rattle.std.specs.List.{list_any}
use Rattle.evac_law.specs.Certificates.{label_cut}
use Rattle.evac_law.specs.Cuts.{leaves_cut}
use Rattle.evac_law.specs.Sums.{below}
use Rattle.bottleneck_report.specs.Covers.{covers}
use Rattle.bottleneck_report.proofs.bottlenecks.count_arc.Given as goal

abbrev pub invariant-loop-moment : goal.invariant-loop-moment
invariant-loop-moment l = record {
  size : length l.ends ≡ length l.fn.ends;
  covered : (k : ℕ) → k ≤ l.model.horizon → covers l.ends k ≡ list_any (λ t. leaves_cut l.model (label_cut l.model l.labels k) k t l.arc) (below l.moment);
}
