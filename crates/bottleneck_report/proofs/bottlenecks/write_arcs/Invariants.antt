use Rattle.std.proofs.Common.{◌≡◌, ℕ, ◌<◌, length, get_or}
use Rattle.bottleneck_report.specs.Crossings.{arc_periods}
use Rattle.bottleneck_report.proofs.bottlenecks.write_arcs.Given as goal

abbrev pub invariant-loop-arc : goal.invariant-loop-arc
invariant-loop-arc l = record {
  size : length l.ends ≡ length l.fn.ends;
  numbers : (i : ℕ) → i < l.arc → get_or l.numbers i 0 ≡ arc_periods l.model l.labels l.cleared i;
}
