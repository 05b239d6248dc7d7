use Rattle.std.proofs.Common.{[], Ok, Err, refl, sym, ap, arith}
use Rattle.edit_session.specs.Sessions.{SessionView}
use Rattle.line_io.proofs.WriterLemmas.{writes_is}
use Rattle.model_text.specs.declared.command.Command.TheVariants.{Blank, Edit, Undo, Cut, Report, Work}
use Rattle.session_text.specs.StateTexts.{work_of}
use Rattle.talk.specs.SessionDesks.{desk_state}
use Rattle.talk.specs.Sessions.{cut_reply}
use Rattle.talk.proofs.Saying.{cut_is}
use Rattle.talk.specs.ReplanDesks.{replanned, shown_replan}
use Rattle.talk.specs.ReplanTalks.{RowOf, SessionRow}
use Rattle.talk.specs.declared.replans.request.Request.TheVariants.{Session}
use Rattle.talk.proofs.Carrying.{code_said}
use Rattle.talk.proofs.Editing.{desk_stands, report_said, text_said}
use Rattle.talk.proofs.ReplanReplying.{answers, asks_command}
use Rattle.talk.proofs.Rows.{session_row}
use Rattle.talk.proofs.Answering.{put_nothing}
use Rattle.talk.specs.Talks.{says}
use Rattle.talk.proofs.replans.speaker.ReplanTalkSpeaker.answer.Goals as goal

pub returns-in-Ok-Session-Blank-clause-answers : goal.returns-in-Ok-Session-Blank-clause-answers
returns-in-Ok-Session-Blank-clause-answers g c =
    let h = c.in-Ok-Session-Blank in
    let t = c.args.self.now in
    let s = replanned t.desk t.replan in
    let x = shown_replan t.desk t.replan c.args.writer.now c.args.steps.now in
    λ names m before at reaches. answers x x names m before c.args.line c.args.text.now (Ok (Session Blank)) (asks_command h.field-0-is h.field-0-0-is h.ensures) at reaches
    (put_nothing g.K.Sink (λ r. SessionRow t.desk.names c.args.line s Blank r) x
    (session_row t.desk.names c.args.line s Blank refl (says s []) (says (desk_state t.desk t.replan.session) [], refl, refl)))

pub returns-in-Ok-Session-Edit-clause-answers : goal.returns-in-Ok-Session-Edit-clause-answers
returns-in-Ok-Session-Edit-clause-answers g c =
    let h = c.in-Ok-Session-Edit in
    λ names m before at reaches. answers _ _ names m before c.args.line c.args.text.now (Ok (Session (Edit h.named))) (asks_command h.field-0-is h.field-0-0-is h.ensures) at reaches (c.reply_named.ensures.says (omega (arith, at, reaches.1)))

pub returns-in-Ok-Session-Undo-clause-answers : goal.returns-in-Ok-Session-Undo-clause-answers
returns-in-Ok-Session-Undo-clause-answers g c =
    let h = c.in-Ok-Session-Undo in
    λ names m before at reaches. answers _ _ names m before c.args.line c.args.text.now (Ok (Session Undo)) (asks_command h.field-0-is h.field-0-0-is h.ensures) at reaches (c.reply_undo.ensures.says (omega (arith, at, reaches.1)))

pub returns-in-Ok-Session-Cut-clause-answers : goal.returns-in-Ok-Session-Cut-clause-answers
returns-in-Ok-Session-Cut-clause-answers g c =
    let h = c.in-Ok-Session-Cut in
    let t = c.args.self.now in
    let s = desk_state t.desk t.replan.session in
    let k = h.period in
    let put = c.reply_cut.ensures.says s (sym (ap (λ (v : SessionView). v.state) c.session-session.ensures)) in
    λ names m before at reaches. answers _ _ names m before c.args.line c.args.text.now (Ok (Session (Cut k))) (asks_command h.field-0-is h.field-0-0-is h.ensures) at reaches
    (text_said t.desk.names c.args.line c.args.steps.now (Cut k) (cut_reply c.args.line s k).text t.desk t.replan _ _ refl (cut_is c.args.line s k) put)

pub returns-in-Ok-Session-Report-clause-answers : goal.returns-in-Ok-Session-Report-clause-answers
returns-in-Ok-Session-Report-clause-answers g c =
    let h = c.in-Ok-Session-Report in
    let t = c.args.self.now in
    λ names m before at reaches. answers _ _ names m before c.args.line c.args.text.now (Ok (Session (Report h.report))) (asks_command h.field-0-is h.field-0-0-is h.ensures) at reaches
    (report_said t.desk.names c.args.line c.args.steps.now h.report t.desk c.reply_report.new.desk t.replan c.session-session.result.now _ _ c.session-session.ensures
    (c.reply_report.ensures.says c.args.steps.now))

pub returns-in-Ok-Session-Report-clause-more : goal.returns-in-Ok-Session-Report-clause-more
returns-in-Ok-Session-Report-clause-more g c = λ more. desk_stands _ _ _ c.session-session.ensures c.reply_report.ensures.desk

pub returns-in-Ok-Session-Work-clause-answers : goal.returns-in-Ok-Session-Work-clause-answers
returns-in-Ok-Session-Work-clause-answers g c =
    let h = c.in-Ok-Session-Work in
    let t = c.args.self.now in
    let put = writes_is (ap (λ (v : SessionView). work_of v.state) c.session-session.ensures) c.put_work.ensures in
    λ names m before at reaches. answers _ _ names m before c.args.line c.args.text.now (Ok (Session Work)) (asks_command h.field-0-is h.field-0-0-is h.ensures) at reaches
    (text_said t.desk.names c.args.line c.args.steps.now Work (work_of t.replan.session.state) t.desk t.replan _ _ refl refl put)

pub returns-in-Err-clause-answers : goal.returns-in-Err-clause-answers
returns-in-Err-clause-answers g c =
    let h = c.in-Err in
    let t = c.args.self.now in
    let s = replanned t.desk t.replan in
    λ names m before at reaches. answers _ _ names m before c.args.line c.args.text.now (Err h.fault) h.ensures at reaches
    (code_said (λ r. RowOf t.desk.names c.args.line s (Err h.fault) r) c.args.line _ _ t.desk t.replan _ _ _ c.code.ensures refl c.put_refusal.ensures)
