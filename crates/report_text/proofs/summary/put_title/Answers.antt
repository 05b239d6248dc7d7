use Rattle.std.proofs.Common.{ap}
use Rattle.line_io.proofs.WriterLemmas.{writes_is, writes_none}
use Rattle.report_text.specs.ReportText.{title_line}
use Rattle.report_text.proofs.summary.put_title.Goals as goal

pub returns-in-None : goal.returns-in-None
unfolding title_line
returns-in-None g c = (writes_is (ap title_line c.in-None.ensures) (writes_none _))
