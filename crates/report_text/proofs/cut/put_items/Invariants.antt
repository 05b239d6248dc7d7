-- The items are those that were put, and those that are still to come.
use Rattle.std.proofs.Common.{◌≡◌, ◌++◌, List, length}
use Rattle.std.specs.List.{All, flat_map}
use Rattle.evac_law.specs.declared.cut.CutItem.{CutItem}
use Rattle.line_io.specs.Writer.{Writes}
use Rattle.report_text.specs.Parts.{IsItemOf}
use Rattle.report_text.specs.ReportText.{item_line}
use Rattle.report_text.proofs.cut.put_items.Given as goal

abbrev pub invariant-loop-item : goal.invariant-loop-item
invariant-loop-item g l =
    (done : List CutItem) × (done ++ l.items ≡ l.initial.items) × All (IsItemOf l.model) l.items
    × Writes g.K.Sink l.initial.writer (flat_map (item_line l.model) done) l.writer

abbrev pub decreases-loop-item : goal.decreases-loop-item
decreases-loop-item g l = length l.items
