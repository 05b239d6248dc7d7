use Rattle.std.proofs.Common.{◌≡◌, ◌∙◌, ◌++◌, ap, refl, subst, sym}
use Rattle.evac_law.specs.declared.model.Model.{Model}
use Rattle.line_io.proofs.WriterLemmas.{writes_then}
use Rattle.bottleneck_report.specs.Crossings.{counts_of}
use Rattle.clearing_report.specs.Clearing.{ClearingView, IsReport}
use Rattle.report_text.specs.ReportText.{summary_text}
use Rattle.session_text.specs.Spaces.{SpaceView}
use Rattle.session_text.specs.StateTexts.{bottlenecks_of, clearing_of}
use Rattle.session_text.proofs.reports.put_reports.Goals as goal

pub returns-clause-text : goal.returns-clause-text
returns-clause-text g c =
    let s = c.args.session.now.state in
    let v = c.space.inside in
    let same : c.model-model.result.now ≡ s.model = c.model-model.ensures.model in
    let made : v.clearing ≡ c.report_plan.new.self.clearing = ap (λ (x : SpaceView). x.clearing) c.space.view_is ∙ c.report_labels.ensures.clearing in
    let report : IsReport s.model s.plan v.clearing = subst (λ (x : ClearingView). IsReport s.model s.plan x) (sym made) c.report_plan.ensures.report in
    let here : IsReport c.model-model.result.now s.plan v.clearing = subst (λ (m : Model). IsReport m s.plan v.clearing) (sym same) report in
    let labels : v.bottlenecks ≡ counts_of c.model-model.result.now s.labels s.last =
    ap (λ (x : SpaceView). x.bottlenecks) c.space.view_is ∙ c.report_labels.ensures.report ∙ ap (λ (m : Model). counts_of m s.labels s.last) (sym same) in
    let clears = rw same at (c.put_clearing.ensures s.plan here) in
    let holds = rw same at (c.put_bottlenecks.ensures s.labels s.last labels) in
    let sums = rw same at c.put_summary.ensures in
    let summary = summary_text c.args.index c.args.names.now.title s.model s.plan s.last v.clearing.time in (
      clearing_of c.args.names.now c.args.index s ++ bottlenecks_of c.args.index s ++ summary,
      (summary, (v.clearing.time, report.time_is, refl), refl),
      writes_then (writes_then clears holds) sums,
    )
