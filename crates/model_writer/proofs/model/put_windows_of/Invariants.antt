-- The texts so far were put.
use Rattle.std.proofs.Common.{take}
use Rattle.std.specs.List.{flat_map}
use Rattle.line_io.specs.Writer.{Writes}
use Rattle.model_writer.specs.ModelText.{window_text}
use Rattle.model_writer.proofs.model.put_windows_of.Given as goal

abbrev pub invariant-loop-window : goal.invariant-loop-window
invariant-loop-window g l = Writes g.K.Sink l.initial.writer (flat_map (window_text l.model l.row) (take l.window-index l.row.windows.items)) l.writer
