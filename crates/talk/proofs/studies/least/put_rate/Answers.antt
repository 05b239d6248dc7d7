use Rattle.std.proofs.Common.{◌+◌, arith, subst}
use Rattle.line_io.proofs.WriterLemmas.{writes_then}
use Rattle.evac_law.specs.declared.model.Model.{Model}
use Rattle.talk.specs.StudyTexts.{SaysCutBelow}
use Rattle.talk.proofs.CertLemmas.{rate_said, rate_text}
use Rattle.talk.proofs.studies.least.put_rate.Goals as goal

pub returns-clause-text : goal.returns-clause-text
returns-clause-text g c =
    let m = c.args.session.now.state.model in
    let a = c.args.trial.arc in
    let k = c.args.trial.by in
    let r = c.args.trial.rate in
    let line = rw c.model.ensures.model at c.put_least.ensures in
    let moves = c.put_moves_at.ensures.text in
    let cut = c.put_cut_below.ensures.text in
    let says = subst (λ (z : Model). SaysCutBelow z a k r cut.0) c.put_moves_at.ensures.stays.model cut.1 in (
      rate_text m a k r moves.0 cut.0,
      rate_said m a k r moves.0 cut.0 c.requires.least moves.1 says,
      writes_then (writes_then (writes_then line moves.2) cut.2) c.put_end.ensures,
    )

pub returns-clause-counted : goal.returns-clause-counted
returns-clause-counted g c =
    let e = c.put_moves_at.ensures.counted in
    let b = c.put_cut_below.ensures.counted in (e.0 + b.0, omega (arith, e.1, b.1))
