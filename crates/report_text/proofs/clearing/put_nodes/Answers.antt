use Rattle.line_io.proofs.WriterLemmas.{writes_part}
use Rattle.clearing_report.specs.Clearing.{clearing_moment}
use Rattle.report_text.specs.ReportText.{node_clear_part}
use Rattle.report_text.proofs.clearing.put_nodes.Goals as goal

pub loop-node-preserved : goal.loop-node-preserved
loop-node-preserved g c = writes_part (node_clear_part c.args.model.now (clearing_moment c.args.clearing.now)) c.loop-node.node c.loop-node.invariant c.put_node.ensures
