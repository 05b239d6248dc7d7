-- The texts so far were put.
use Rattle.std.specs.List.{flat_map}
use Rattle.evac_law.specs.Certificates.{label_cut}
use Rattle.evac_law.specs.Sums.{below}
use Rattle.line_io.specs.Writer.{Writes}
use Rattle.certificate_text.specs.BlockText.{node_in}
use Rattle.certificate_text.proofs.short.put_ins.Given as goal

abbrev pub invariant-loop-node : goal.invariant-loop-node
invariant-loop-node g l = Writes g.K.Sink l.initial.writer (flat_map (node_in l.model (label_cut l.model l.labels l.k)) (below l.node)) l.writer
