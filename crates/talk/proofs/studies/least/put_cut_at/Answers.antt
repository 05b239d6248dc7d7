use Rattle.std.proofs.Common.{◌+◌, ◌++◌, arith, refl}
use Rattle.evac_law.specs.Certificates.{label_cut}
use Rattle.certificate_text.specs.BlockText.{in_lines}
use Rattle.report_text.specs.ReportText.{cut_line}
use Rattle.talk.proofs.CertLemmas.{barred_said_by, cut_said}
use Rattle.talk.proofs.studies.least.put_cut_at.Goals as goal

pub returns-in-Ok-clause-text : goal.returns-in-Ok-clause-text
returns-in-Ok-clause-text g c =
    let s = c.args.session.now.state in
    let t = c.edit.new.self.state in
    let text = cut_line c.args.trial.by c.cut_value-value.result ++ in_lines t.model (label_cut t.model t.labels c.args.trial.by) in (
      text,
      cut_said s t c.args.trial.arc c.args.trial.by c.args.trial.rate c.cut_value-value.result text c.requires.solved c.requires.trial.arc c.requires.trial.rate c.requires.trial.by c.in-Ok.ensures.ends.2.0 c.requires.slow
          (rw (c.model-model.ensures.model, c.labels.ensures) at c.cut_value-value.ensures.value) refl,
      rw (c.model-model.ensures.model, c.labels-in-Ok.ensures) at c.put_cut.ensures,
    )

pub returns-in-Ok-clause-counted : goal.returns-in-Ok-clause-counted
returns-in-Ok-clause-counted g c =
    let e = c.in-Ok.ensures.ends in
    let b = c.go_back.ensures.counted in (e.0 + b.0, omega (arith, e.1, b.1))

pub returns-in-Err-NotCleared-clause-text : goal.returns-in-Err-NotCleared-clause-text
returns-in-Err-NotCleared-clause-text g c =
    let s = c.args.session.now in
    let t = c.edit.new.self in
    let f = c.in-Err-NotCleared in
    let most = rw f.field-0-is at c.from.ensures in
    let text = cut_line s.state.model.horizon f.most ++ in_lines s.state.model (label_cut s.state.model t.refused s.state.model.horizon) in (
      text,
      barred_said_by s t f.field-0 c.args.trial.arc c.args.trial.by c.args.trial.rate f.field-0-0 f.most f.ensures.ends.0 text f.field-0-is f.ensures.ends.2 refl,
      rw (c.model-model-in-Err-NotCleared.ensures.model, c.refused_cut-labels.ensures.labels, most, f.ensures.unchanged) at c.put_cut-in-Err-NotCleared.ensures,
    )
