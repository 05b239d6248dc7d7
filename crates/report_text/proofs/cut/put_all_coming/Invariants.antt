-- The texts so far were put.
use Rattle.std.specs.List.{flat_map}
use Rattle.evac_law.specs.Sums.{below, moments_to}
use Rattle.line_io.specs.Writer.{Writes}
use Rattle.report_text.specs.Parts.{entry_text}
use Rattle.report_text.proofs.cut.put_all_coming.Given as goal

abbrev pub invariant-loop-node : goal.invariant-loop-node
invariant-loop-node g l = Writes g.K.Sink l.initial.writer (flat_map (λ n. flat_map (entry_text l.model n) (moments_to l.k)) (below l.node)) l.writer
