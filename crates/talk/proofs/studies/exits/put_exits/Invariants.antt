-- The rows of the exits so far were put.
use Rattle.std.proofs.Common.{◌≡◌, ◌≤◌, ◌++◌, List, codes, length}
use Rattle.std.specs.List.{filter, flat_map}
use Rattle.evac_law.specs.Building.{is_exit_at}
use Rattle.evac_law.specs.Sums.{below}
use Rattle.line_io.specs.Writer.{Writes}
use Rattle.report_text.specs.ReportText.{number_line}
use Rattle.talk.specs.StudyTexts.{AreRows, Row, exits_of, row_text}
use Rattle.talk.proofs.studies.exits.put_exits.Given as goal

abbrev pub invariant-loop-node : goal.invariant-loop-node
invariant-loop-node g l =
    let m = l.fn.session.state.model in
    (rows : List Row) × AreRows m (filter (is_exit_at m) (below l.node)) rows
    × Writes g.K.Sink l.fn.writer (number_line (codes "exits") (length (exits_of m)) ++ flat_map (row_text m) rows) l.writer
    × (l.session.state ≡ l.fn.session.state) × (l.fn.steps ≤ l.steps)
