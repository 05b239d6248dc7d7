-- The lines of the moments so far were put.
use Rattle.std.specs.List.{flat_map}
use Rattle.evac_law.specs.Sums.{below}
use Rattle.line_io.specs.Writer.{Writes}
use Rattle.talk.specs.ReplanTalks.{gone_line}
use Rattle.talk.proofs.replans.gone.put_gone_lines.Given as goal

abbrev pub invariant-loop-moment : goal.invariant-loop-moment
invariant-loop-moment g l = Writes g.K.Sink l.initial.writer (flat_map (gone_line l.replan.gone) (below l.moment)) l.writer
