-- The texts so far were put.
use Rattle.std.specs.List.{flat_map}
use Rattle.evac_law.specs.Sums.{below}
use Rattle.line_io.specs.Writer.{Writes}
use Rattle.report_text.specs.Parts.{entry_text}
use Rattle.report_text.proofs.cut.put_node_coming.Given as goal

abbrev pub invariant-loop-moment : goal.invariant-loop-moment
invariant-loop-moment g l = Writes g.K.Sink l.initial.writer (flat_map (entry_text l.model l.node) (below l.moment)) l.writer
