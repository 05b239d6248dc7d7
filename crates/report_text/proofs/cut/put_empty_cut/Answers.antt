use Rattle.std.proofs.Common.{ap}
use Rattle.line_io.proofs.WriterLemmas.{writes_is, writes_then}
use Rattle.evac_law.specs.Cuts.{cut_value}
use Rattle.report_text.specs.Parts.{no_pair}
use Rattle.report_text.specs.ReportText.{cut_line, cut_text}
use Rattle.report_text.proofs.cut.put_empty_cut.Goals as goal

pub returns : goal.returns
unfolding cut_text
returns g c =
    let m = c.args.model.now in
    writes_then (writes_then (writes_is {u = cut_line c.args.k (cut_value m no_pair c.args.k)} (ap (cut_line c.args.k) c.all_entered.ensures) c.put_cut_line.ensures) c.put_all_coming.ensures) c.put_end.ensures
