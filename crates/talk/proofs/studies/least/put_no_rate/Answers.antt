use Rattle.std.proofs.Common.{arith}
use Rattle.line_io.proofs.WriterLemmas.{writes_then}
use Rattle.evac_law.specs.Limits.{rate_limit}
use Rattle.talk.proofs.CertLemmas.{never_said, never_text}
use Rattle.talk.proofs.studies.least.put_no_rate.Goals as goal

pub put_cut_at-requires-clause-trial : goal.put_cut_at-requires-clause-trial
unfolding rate_limit
put_cut_at-requires-clause-trial g c = record { arc = c.requires.arc; rate = omega arith; by = c.requires.by }

pub put_cut_at-requires-clause-slow : goal.put_cut_at-requires-clause-slow
unfolding rate_limit
put_cut_at-requires-clause-slow g c = c.requires.none.none rate_limit (omega arith)

pub returns-clause-text : goal.returns-clause-text
unfolding rate_limit
returns-clause-text g c =
    let m = c.args.session.now.state.model in
    let a = c.args.arc in
    let k = c.args.by in
    let line = rw c.model.ensures.model at c.put_never.ensures in
    let cut = c.put_cut_at.ensures.text in (
      never_text m a k cut.0,
      never_said m a k cut.0 c.requires.none cut.1,
      writes_then (writes_then line cut.2) c.put_end.ensures,
    )
