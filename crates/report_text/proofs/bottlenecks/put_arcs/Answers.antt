use Rattle.std.specs.Prelude.{slice_index}
use Rattle.line_io.proofs.WriterLemmas.{writes_part}
use Rattle.report_text.specs.ReportText.{arc_periods_part}
use Rattle.report_text.proofs.bottlenecks.put_arcs.Goals as goal

pub loop-arc-preserved : goal.loop-arc-preserved
loop-arc-preserved g c = writes_part (arc_periods_part c.args.model.now (slice_index c.args.bottlenecks.now.arcs)) c.loop-arc.arc c.loop-arc.invariant c.put_arc.ensures
