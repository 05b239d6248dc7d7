-- The texts so far were put.
use Rattle.std.specs.List.{flat_map}
use Rattle.evac_law.specs.Sums.{below}
use Rattle.line_io.specs.Writer.{Writes}
use Rattle.certificate_text.specs.NameTexts.{run_line}
use Rattle.certificate_text.proofs.answer.put_runs.Given as goal

abbrev pub invariant-loop-moment : goal.invariant-loop-moment
invariant-loop-moment g l = Writes g.K.Sink l.initial.writer (flat_map (run_line l.name l.labels l.cleared l.node) (below l.moment)) l.writer
