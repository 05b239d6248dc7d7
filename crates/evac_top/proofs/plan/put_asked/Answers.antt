use Rattle.std.proofs.Common.{◌++◌, refl, subst}
use Rattle.line_io.proofs.WriterLemmas.{writes_then}
use Rattle.report_text.specs.ReportText.{SaysCards}
use Rattle.session_text.specs.StateTexts.{SaysReports, SaysRoutesOf}
use Rattle.evac_top.specs.Solve.{Where}
use Rattle.evac_top.proofs.plan.put_asked.Goals as goal

pub returns : goal.returns
returns g c =
    let s = c.args.session.now.state in
    let names = c.args.query.now.names in
    let r = c.put_routes.ensures in
    let q = c.put_cards.ensures in
    let p = c.put_reports.ensures in (
      r.0 ++ q.0,
      p.0,
      record {
        routes = r.0;
        says_routes = subst (λ b. Where b (SaysRoutesOf 0 s) r.0) c.requires.routes_asked r.1;
        cards = q.0;
        says_cards = subst (λ b. Where b (SaysCards 0 s.model s.plan) q.0) c.requires.cards_asked q.1;
        parts = refl;
      },
      subst (λ b. Where b (SaysReports names 0 s) p.0) c.requires.reports_asked p.1,
      writes_then (writes_then r.2 q.2) p.2,
    )
