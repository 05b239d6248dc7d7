use Rattle.std.proofs.Common.{ap, codes}
use Rattle.line_io.proofs.WriterLemmas.{writes_is, writes_then}
use Rattle.evac_law.specs.Building.{people}
use Rattle.report_text.specs.ReportText.{number_line}
use Rattle.report_text.proofs.summary.put_outcome.Goals as goal

pub returns : goal.returns
returns g c =
    let m = c.args.model.now in
    writes_then (writes_then (writes_is {u = number_line (codes "people") (people m)} (ap (number_line (codes "people")) (cc)) c.put_number.ensures) (writes_is {u = number_line (codes "cleared") c.args.cleared} (ap (number_line (codes "cleared")) (cc)) c.put_number-2.ensures)) (writes_is (ap (number_line (codes "seconds")) (cc)) c.put_number-3.ensures)
