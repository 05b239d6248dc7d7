use Rattle.std.specs.Prelude.{slice_index}
use Rattle.line_io.proofs.WriterLemmas.{writes_part}
use Rattle.report_text.specs.ReportText.{hold_periods_part}
use Rattle.report_text.proofs.bottlenecks.put_holds.Goals as goal

pub loop-node-preserved : goal.loop-node-preserved
loop-node-preserved g c = writes_part (hold_periods_part c.args.model.now (slice_index c.args.bottlenecks.now.holds)) c.loop-node.node c.loop-node.invariant c.put_hold.ensures
