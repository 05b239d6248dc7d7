use Rattle.std.proofs.Common.{◌≡◌, ℕ, ◌<◌, length, get_or}
use Rattle.bottleneck_report.specs.Crossings.{hold_periods}
use Rattle.bottleneck_report.proofs.bottlenecks.write_holds.Given as goal

abbrev pub invariant-loop-node : goal.invariant-loop-node
invariant-loop-node l = record {
  size : length l.ends ≡ length l.fn.ends;
  numbers : (i : ℕ) → i < l.node → get_or l.numbers i 0 ≡ hold_periods l.model l.labels l.cleared i;
}
