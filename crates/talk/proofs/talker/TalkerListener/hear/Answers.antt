use Rattle.std.proofs.Common.{◌≡◌, Err, refl, rules}
use Rattle.std.proofs.lemmas.Result.{err_from_is_err_and}
use Rattle.talk.specs.declared.fault.AnswerFault.TheVariants.{Write}
use Rattle.talk.specs.Speaking.{speaking}
use Rattle.talk.proofs.Answering.{hears_fault, reply_said, reply_unsaid}
use Rattle.talk.proofs.talker.TalkerListener.hear.Goals as goal

pub returns-in_ok-flush-in-Ok-More-clause-hears : goal.returns-in_ok-flush-in-Ok-More-clause-hears
returns-in_ok-flush-in-Ok-More-clause-hears g c =
    let t = g.T.Speaker in
    let k = g.K.Sink in
    let s = c.args.self.now in
    let a = c.answer.new in
    let f = c.in_ok-flush-in-Ok-More.ensures in
    let x = speaking (t.kept s.speaker.now) (t.state s.speaker.now) c.new-writer.result s.steps.now in
    let y = speaking (t.kept a.self) (t.state a.self) a.writer a.steps in
    λ names m before at reaches. let h = rw c.in-Ok-More.field-0-is at (c.in-Ok-More.ensures.answers names m before at reaches) in
    (h.0, h.1, reply_said k x y h.0 c.flush.new.self c.new-writer.ensures.failed (search rules) (search rules) h.2 f.text f.ok, h.3, f.sent)

pub returns-in_err-flush-in-Ok-More-clause-hears : goal.returns-in_err-flush-in-Ok-More-clause-hears
returns-in_err-flush-in-Ok-More-clause-hears g c =
    let t = g.T.Speaker in
    let k = g.K.Sink in
    let s = c.args.self.now in
    let a = c.answer.new in
    let f = c.in_err-flush-in-Ok-More.ensures in
    let x = speaking (t.kept s.speaker.now) (t.state s.speaker.now) c.new-writer.result s.steps.now in
    let y = speaking (t.kept a.self) (t.state a.self) a.writer a.steps in
    let made = err_from_is_err_and c.from_residual.result c.from_residual.ensures.1 in
    let is : c.from_residual.result ≡ Err (Write c.in_err-flush-in-Ok-More.field-0.0) = rw (made.1, made.2) refl in
    λ names m before at reaches. let h = rw c.in-Ok-More.field-0-is at (c.in-Ok-More.ensures.answers names m before at reaches) in
    hears_fault (t.talk names m) (t.Reaches names m) c.from_residual.result _ _ c.args.line c.args.text.now c.in_err-flush-in-Ok-More.field-0.0 is
    (h.0, h.1, reply_unsaid k x y h.0 c.flush.new.self c.new-writer.ensures.failed (search rules) (search rules) h.2 f.text f.err)
