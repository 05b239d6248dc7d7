-- The texts so far were put.
use Rattle.std.proofs.Common.{take}
use Rattle.std.specs.List.{flat_map}
use Rattle.line_io.specs.Writer.{Writes}
use Rattle.model_writer.specs.ModelText.{windows_text}
use Rattle.model_writer.proofs.model.put_windows.Given as goal

abbrev pub invariant-loop-row : goal.invariant-loop-row
invariant-loop-row g l = Writes g.K.Sink l.initial.writer (flat_map (windows_text l.model) (take l.row-index l.model.arcs)) l.writer
