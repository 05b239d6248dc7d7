-- The texts so far were put.
use Rattle.std.specs.List.{flat_map}
use Rattle.evac_law.specs.Sums.{below}
use Rattle.line_io.specs.Writer.{Writes}
use Rattle.clearing_report.specs.Clearing.{clearing_moment}
use Rattle.report_text.specs.ReportText.{node_clear_part}
use Rattle.report_text.proofs.clearing.put_nodes.Given as goal

abbrev pub invariant-loop-node : goal.invariant-loop-node
invariant-loop-node g l = Writes g.K.Sink l.initial.writer (flat_map (node_clear_part l.model (clearing_moment l.clearing)) (below l.node)) l.writer
