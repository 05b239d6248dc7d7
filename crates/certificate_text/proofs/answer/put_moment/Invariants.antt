-- The texts so far were put.
use Rattle.std.specs.List.{flat_map}
use Rattle.evac_law.specs.Sums.{below}
use Rattle.line_io.specs.Writer.{Writes}
use Rattle.certificate_text.specs.BlockText.{move_part}
use Rattle.certificate_text.proofs.answer.put_moment.Given as goal

abbrev pub invariant-loop-arc : goal.invariant-loop-arc
invariant-loop-arc g l = Writes g.K.Sink l.initial.writer (flat_map (move_part l.model (g.F.Standing.stand l.standing).plan l.moment) (below l.arc)) l.writer
