use Rattle.line_io.proofs.WriterLemmas.{writes_then}
use Rattle.report_text.specs.ReportText.{title_line}
use Rattle.report_text.proofs.summary.put_text.Goals as goal

pub returns : goal.returns
unfolding title_line
returns g c =
    writes_then (writes_then c.put_all.ensures c.put_all-2.ensures) c.put_all-3.ensures
