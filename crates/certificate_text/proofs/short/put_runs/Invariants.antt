-- The texts so far were put.
use Rattle.std.specs.List.{flat_map}
use Rattle.evac_law.specs.Certificates.{label_cut}
use Rattle.evac_law.specs.Sums.{below}
use Rattle.line_io.specs.Writer.{Writes}
use Rattle.certificate_text.specs.BlockText.{in_part}
use Rattle.certificate_text.proofs.short.put_runs.Given as goal

abbrev pub invariant-loop-moment : goal.invariant-loop-moment
invariant-loop-moment g l = Writes g.K.Sink l.initial.writer (flat_map (in_part l.model (label_cut l.model l.labels l.k) l.node) (below l.moment)) l.writer
