-- The texts so far were put.
use Rattle.std.proofs.Common.{take}
use Rattle.std.specs.List.{flat_map}
use Rattle.line_io.specs.Writer.{Writes}
use Rattle.model_writer.specs.ModelText.{entrant_text}
use Rattle.model_writer.proofs.model.put_entrants.Given as goal

abbrev pub invariant-loop-entrant : goal.invariant-loop-entrant
invariant-loop-entrant g l = Writes g.K.Sink l.initial.writer (flat_map (entrant_text l.model) (take l.entrant-index l.model.entrants)) l.writer
