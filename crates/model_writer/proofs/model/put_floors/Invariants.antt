-- The texts so far were put.
use Rattle.std.specs.List.{flat_map}
use Rattle.evac_law.specs.Sums.{below}
use Rattle.line_io.specs.Writer.{Writes}
use Rattle.model_writer.specs.ModelText.{floor_text}
use Rattle.model_writer.proofs.model.put_floors.Given as goal

abbrev pub invariant-loop-place : goal.invariant-loop-place
invariant-loop-place g l = Writes g.K.Sink l.initial.writer (flat_map (floor_text l.names.floors l.names.texts) (below l.place)) l.writer
