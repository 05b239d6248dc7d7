use Rattle.std.proofs.Common.{◌+◌, arith, refl}
use Rattle.certificate_text.specs.BlockText.{move_lines}
use Rattle.talk.proofs.CertLemmas.{moves_said, never_refused}
use Rattle.talk.proofs.studies.least.put_moves_at.Goals as goal

pub unreachable-requires : goal.unreachable-requires
unreachable-requires g c =
    let e = c.in-Err.ensures.ends in
    never_refused c.args.session.now c.edit.new.self c.in-Err.field-0 c.args.trial.arc c.args.trial.by c.args.trial.rate e.0 c.requires.solved c.requires.trial.arc c.requires.trial.rate c.requires.trial.by c.requires.enough e.2

pub returns-clause-text : goal.returns-clause-text
returns-clause-text g c =
    let t = c.edit.new.self.state in (
      move_lines t.model t.plan,
      moves_said c.args.session.now.state t c.args.trial.arc c.args.trial.by c.args.trial.rate (move_lines t.model t.plan) c.in-Ok.ensures.ends.2.0 c.requires.enough refl,
      rw c.model.ensures.model at c.put_moves.ensures,
    )

pub returns-clause-counted : goal.returns-clause-counted
returns-clause-counted g c =
    let e = c.in-Ok.ensures.ends in
    let b = c.go_back.ensures.counted in (e.0 + b.0, omega (arith, e.1, b.1))
