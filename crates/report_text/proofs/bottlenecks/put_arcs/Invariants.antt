-- The texts so far were put.
use Rattle.std.specs.List.{flat_map}
use Rattle.evac_law.specs.Sums.{below}
use Rattle.line_io.specs.Writer.{Writes}
use Rattle.std.specs.Prelude.{slice_index}
use Rattle.report_text.specs.ReportText.{arc_periods_part}
use Rattle.report_text.proofs.bottlenecks.put_arcs.Given as goal

abbrev pub invariant-loop-arc : goal.invariant-loop-arc
invariant-loop-arc g l = Writes g.K.Sink l.initial.writer (flat_map (arc_periods_part l.model (slice_index l.bottlenecks.arcs)) (below l.arc)) l.writer
