use Rattle.std.proofs.Common.{◌∙◌, ap, codes}
use Rattle.line_io.proofs.WriterLemmas.{writes_is, writes_then}
use Rattle.report_text.specs.ReportText.{number_line}
use Rattle.talk.proofs.replans.gone.put_gone.Goals as goal

pub returns : goal.returns
returns g c =
    let head = writes_is (ap (number_line (codes "advance")) (c.from.ensures ∙ c.moment.ensures)) c.put_number.ensures in (
      c.last_gone-last.result,
      c.last_gone-last.ensures,
      writes_then (writes_then head c.put_gone_lines.ensures) c.put_end.ensures,
    )
