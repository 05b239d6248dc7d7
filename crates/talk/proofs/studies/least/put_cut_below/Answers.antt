use Rattle.std.proofs.Common.{◌≡◌, ℕ, [], arith, refl, subst, sym}
use Rattle.line_io.proofs.WriterLemmas.{writes_none}
use Rattle.talk.specs.StudyTexts.{SaysCutBelow}
use Rattle.talk.proofs.studies.least.put_cut_below.Goals as goal

pub returns-else-trial-gt0-clause-text : goal.returns-else-trial-gt0-clause-text
returns-else-trial-gt0-clause-text g c =
    let m = c.args.session.now.state.model in
    let none : c.args.trial.rate ≡ 0 = omega (arith, c.if-trial-gt0.false) in
    ([], subst (λ (r : ℕ). SaysCutBelow m c.args.trial.arc c.args.trial.by r []) (sym none) refl, writes_none c.args.writer.now)
