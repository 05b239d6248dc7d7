-- The texts so far were put.
use Rattle.std.proofs.Common.{take}
use Rattle.std.specs.List.{flat_map}
use Rattle.line_io.specs.Writer.{Writes}
use Rattle.floor_index.specs.Floors.{listed}
use Rattle.clearing_report.specs.Clearing.{latest, clearing_moment}
use Rattle.report_text.specs.ReportText.{floor_clear_part}
use Rattle.report_text.proofs.clearing.put_floors.Given as goal

abbrev pub invariant-loop-floor : goal.invariant-loop-floor
invariant-loop-floor g l = Writes g.K.Sink l.initial.writer (flat_map (floor_clear_part (λ f. latest (clearing_moment l.clearing) (listed l.index f))) (take l.floor-index l.floors)) l.writer
