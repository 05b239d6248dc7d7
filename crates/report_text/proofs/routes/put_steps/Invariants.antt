-- The texts so far were put.
use Rattle.std.proofs.Common.{take}
use Rattle.std.specs.List.{flat_map}
use Rattle.line_io.specs.Writer.{Writes}
use Rattle.report_text.specs.ReportText.{step_part}
use Rattle.report_text.proofs.routes.put_steps.Given as goal

abbrev pub invariant-loop-step : goal.invariant-loop-step
invariant-loop-step g l = Writes g.K.Sink l.initial.writer (flat_map (step_part l.model) (take l.step-index l.steps)) l.writer
