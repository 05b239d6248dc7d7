-- The routes so far were put.
use Rattle.std.proofs.Common.{◌++◌, List, codes}
use Rattle.std.specs.List.{flat_map}
use Rattle.line_io.specs.Writer.{Writes}
use Rattle.route_decompose.specs.Routes.{RouteView}
use Rattle.route_decompose.proofs.Given.{IsGiven}
use Rattle.report_text.specs.ReportText.{number_line, route_lines}
use Rattle.report_text.proofs.Given.{all_waiting}
use Rattle.report_text.proofs.routes.put_routes.Given as goal

abbrev pub invariant-loop-writer : goal.invariant-loop-writer
invariant-loop-writer g l =
    let m = l.model in
    (given : List RouteView) × IsGiven m (g.F.Standing.stand l.standing).plan given l.routes
    × Writes g.K.Sink l.fn.writer (number_line (codes "routes") l.index ++ flat_map (route_lines m) given) l.writer

abbrev pub decreases-loop-writer : goal.decreases-loop-writer
decreases-loop-writer g l = all_waiting l.model l.routes
