-- The texts so far were put.
use Rattle.std.specs.List.{flat_map}
use Rattle.evac_law.specs.Sums.{below}
use Rattle.line_io.specs.Writer.{Writes}
use Rattle.std.specs.Prelude.{slice_index}
use Rattle.report_text.specs.ReportText.{hold_periods_part}
use Rattle.report_text.proofs.bottlenecks.put_holds.Given as goal

abbrev pub invariant-loop-node : goal.invariant-loop-node
invariant-loop-node g l = Writes g.K.Sink l.initial.writer (flat_map (hold_periods_part l.model (slice_index l.bottlenecks.holds)) (below l.node)) l.writer
