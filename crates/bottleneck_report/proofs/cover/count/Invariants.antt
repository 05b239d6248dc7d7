use Rattle.std.proofs.Common.{◌≡◌, ◌≤◌, length}
use Rattle.std.specs.List.{filter}
use Rattle.evac_law.specs.Sums.{below}
use Rattle.bottleneck_report.specs.Covers.{covers}
use Rattle.bottleneck_report.proofs.CoverLemmas.{IsFar}
use Rattle.bottleneck_report.proofs.cover.count.Given as goal

abbrev pub invariant-loop-period : goal.invariant-loop-period
invariant-loop-period l = record {
  few : l.count ≤ l.period;
  counted : l.count ≡ length (filter (covers l.ends) (below l.period));
  far : IsFar l.ends l.period l.far;
}
