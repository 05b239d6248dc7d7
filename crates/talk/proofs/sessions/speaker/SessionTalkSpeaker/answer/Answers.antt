use Rattle.std.proofs.Common.{Ok, Err, refl, sym, ap, ◌∙◌, arith}
use Rattle.model_text.specs.declared.command.Command.TheVariants.{Blank, Edit, Undo, Cut, Report, Work}
use Rattle.session_text.specs.StateTexts.{work_of}
use Rattle.talk.specs.SessionDesks.{desk_state, shown_of}
use Rattle.talk.specs.Sessions.{Replies, cut_reply}
use Rattle.talk.proofs.SessionReplying.{answers}
use Rattle.talk.proofs.Saying.{code_said, cut_is, same_desk, text_said}
use Rattle.talk.proofs.Answering.{put_nothing}
use Rattle.talk.proofs.sessions.speaker.SessionTalkSpeaker.answer.Goals as goal

pub returns-in-Ok-Blank-clause-answers : goal.returns-in-Ok-Blank-clause-answers
returns-in-Ok-Blank-clause-answers g c =
    let h = c.in-Ok-Blank in
    let t = c.args.self.now in
    let x = shown_of t.desk t.session c.args.writer.now c.args.steps.now in
    λ names m before at reaches. answers x x names m before c.args.line c.args.text.now (Ok Blank) (sym (ap Ok h.field-0-is) ∙ h.ensures.exact) at reaches
    (put_nothing g.K.Sink (λ r. Replies t.desk.names c.args.line (desk_state t.desk t.session) (Ok Blank) r) x refl)

pub returns-in-Ok-Edit-clause-answers : goal.returns-in-Ok-Edit-clause-answers
returns-in-Ok-Edit-clause-answers g c =
    let h = c.in-Ok-Edit in
    λ names m before at reaches. answers _ _ names m before c.args.line c.args.text.now (Ok (Edit h.named)) (sym (ap Ok h.field-0-is) ∙ h.ensures.exact) at reaches
    (c.reply_edit.ensures.says (omega (arith, at, reaches.1)))

pub returns-in-Ok-Undo-clause-answers : goal.returns-in-Ok-Undo-clause-answers
returns-in-Ok-Undo-clause-answers g c =
    let h = c.in-Ok-Undo in
    λ names m before at reaches. answers _ _ names m before c.args.line c.args.text.now (Ok Undo) (sym (ap Ok h.field-0-is) ∙ h.ensures.exact) at reaches
    (c.reply_undo.ensures.says (omega (arith, at, reaches.1)))

pub returns-in-Ok-Cut-clause-answers : goal.returns-in-Ok-Cut-clause-answers
returns-in-Ok-Cut-clause-answers g c =
    let h = c.in-Ok-Cut in
    let t = c.args.self.now in
    let s = desk_state t.desk t.session in
    let k = h.period in
    λ names m before at reaches. answers _ _ names m before c.args.line c.args.text.now (Ok (Cut k)) (sym (ap Ok h.field-0-is) ∙ h.ensures.exact) at reaches
    (text_said (λ r. Replies t.desk.names c.args.line s (Ok (Cut k)) r) (cut_reply c.args.line s k).text c.args.steps.now t.desk t.desk t.session _ _ (same_desk t.desk)
    (cut_is c.args.line s k) (c.reply_cut.ensures.says s refl))

pub returns-in-Ok-Report-clause-answers : goal.returns-in-Ok-Report-clause-answers
returns-in-Ok-Report-clause-answers g c =
    let h = c.in-Ok-Report in
    λ names m before at reaches. answers _ _ names m before c.args.line c.args.text.now (Ok (Report h.report)) (sym (ap Ok h.field-0-is) ∙ h.ensures.exact) at reaches
    (c.reply_report.ensures.says c.args.steps.now)

pub returns-in-Ok-Work-clause-answers : goal.returns-in-Ok-Work-clause-answers
returns-in-Ok-Work-clause-answers g c =
    let h = c.in-Ok-Work in
    let t = c.args.self.now in
    let s = desk_state t.desk t.session in
    λ names m before at reaches. answers _ _ names m before c.args.line c.args.text.now (Ok Work) (sym (ap Ok h.field-0-is) ∙ h.ensures.exact) at reaches
    (text_said (λ r. Replies t.desk.names c.args.line s (Ok Work) r) (work_of t.session.state) c.args.steps.now t.desk t.desk t.session _ _ (same_desk t.desk)
    refl c.put_work.ensures)

pub returns-in-Err-clause-answers : goal.returns-in-Err-clause-answers
returns-in-Err-clause-answers g c =
    let h = c.in-Err in
    let t = c.args.self.now in
    let s = desk_state t.desk t.session in
    λ names m before at reaches. answers _ _ names m before c.args.line c.args.text.now (Err h.fault) h.ensures.exact at reaches
    (code_said (λ r. Replies t.desk.names c.args.line s (Err h.fault) r) c.args.line _ _ t.desk t.session _ _ _ c.code.ensures refl
    c.put_refusal.ensures)
