use Rattle.std.proofs.Common.{[]}
use Rattle.line_io.proofs.WriterLemmas.{writes_none}
use Rattle.session_text.specs.Spaces.{IsSpace}
use Rattle.session_text.specs.StateTexts.{SaysReports}
use Rattle.evac_top.proofs.PlanLemmas.{some-holds, where-none, where-some}
use Rattle.evac_top.proofs.plan.put_reports.Goals as goal

pub put_reports-requires : goal.put_reports-requires
put_reports-requires g c =
    record { space = some-holds c.args.reports.now c.in-Some.space (IsSpace c.args.session.now.state.model c.args.names.now) c.in-Some.is c.requires }

pub returns-in-Some : goal.returns-in-Some
returns-in-Some g c =
    let put = c.put_reports.ensures.text in
    (put.0, where-some c.args.reports.now c.in-Some.space (SaysReports c.args.names.now 0 c.args.session.now.state) put.0 c.in-Some.is put.1, put.2)

pub returns-in-None : goal.returns-in-None
returns-in-None g c = ([], where-none c.args.reports.now (SaysReports c.args.names.now 0 c.args.session.now.state) c.in-None.is, writes_none _)
