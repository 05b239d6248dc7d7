use Rattle.std.proofs.Common.{ap, codes}
use Rattle.line_io.proofs.WriterLemmas.{writes_is, writes_then}
use Rattle.evac_law.specs.Plans.{person_periods}
use Rattle.report_text.specs.ReportText.{number_line, outcome_lines, summary_text}
use Rattle.report_text.proofs.summary.put_summary.Goals as goal

pub returns : goal.returns
unfolding summary_text
returns g c =
    let m = c.args.subject.now.model.now in
    let s = g.F.Standing.stand c.args.standing.now in
    writes_then (writes_then (writes_then (writes_then (writes_then (writes_is {u = number_line (codes "summary") c.args.subject.now.index} (ap (number_line (codes "summary")) (cc)) c.put_number.ensures) c.put_title.ensures) (writes_is {u = outcome_lines m s.last} (ap (outcome_lines m) c.cleared.ensures) c.put_outcome.ensures)) (writes_is {u = number_line (codes "uncongested") c.args.clearing.now.time} (ap (number_line (codes "uncongested")) (cc)) c.put_number-2.ensures)) (writes_is {u = number_line (codes "personperiods") (person_periods m s.plan)} (ap (number_line (codes "personperiods")) (cc)) c.put_number-3.ensures)) c.put_end.ensures
