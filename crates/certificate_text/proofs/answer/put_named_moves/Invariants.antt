-- The texts so far were put.
use Rattle.std.specs.List.{flat_map}
use Rattle.evac_law.specs.Sums.{below}
use Rattle.line_io.specs.Writer.{Writes}
use Rattle.certificate_text.specs.BlockText.{moment_moves}
use Rattle.certificate_text.proofs.answer.put_named_moves.Given as goal

abbrev pub invariant-loop-moment : goal.invariant-loop-moment
invariant-loop-moment g l = Writes g.K.Sink l.initial.writer (flat_map (moment_moves l.model (g.F.Standing.stand l.standing).plan) (below l.moment)) l.writer
