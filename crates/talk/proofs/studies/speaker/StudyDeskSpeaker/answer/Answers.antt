use Rattle.std.proofs.Common.{Ok, Err, refl, sym, ap, ◌∙◌}
use Rattle.model_text.specs.declared.study.StudyCommand.TheVariants.{Blank, Exits, Least}
use Rattle.talk.specs.StudyDesks.{shown_study}
use Rattle.talk.specs.Studies.{AsksLeast, StudyReplies}
use Rattle.talk.proofs.StudyReplying.{answers, asks_named, code_said, text_said}
use Rattle.talk.proofs.Answering.{put_nothing}
use Rattle.talk.proofs.studies.speaker.StudyDeskSpeaker.answer.Goals as goal

pub returns-in-Ok-Blank-clause-answers : goal.returns-in-Ok-Blank-clause-answers
returns-in-Ok-Blank-clause-answers g c =
    let h = c.in-Ok-Blank in
    let d = c.args.self.now in
    let x = shown_study d c.args.writer.now c.args.steps.now in
    λ names m before at reaches. answers x x names m before c.args.line c.args.text.now (Ok Blank) (sym (ap Ok h.field-0-is) ∙ h.ensures) reaches
    (put_nothing g.K.Sink (λ r. StudyReplies d.names d.session.state.model c.args.line (Ok Blank) r) x refl)

pub returns-in-Ok-Exits-clause-answers : goal.returns-in-Ok-Exits-clause-answers
returns-in-Ok-Exits-clause-answers g c =
    let h = c.in-Ok-Exits in
    let d = c.args.self.now in
    let t = c.put_exits.ensures in
    λ names m before at reaches. answers _ _ names m before c.args.line c.args.text.now (Ok Exits) (sym (ap Ok h.field-0-is) ∙ h.ensures) reaches
    (text_said (λ r. StudyReplies d.names d.session.state.model c.args.line (Ok Exits) r) d c.put_exits.new.self t.text.0 _ _ _ _ t.counted.0 t.kept t.counted.1 t.text.1 t.text.2)

pub returns-in-Ok-clause-answers : goal.returns-in-Ok-clause-answers
returns-in-Ok-clause-answers g c =
    let h = c.in-Ok-Least in
    let d = c.args.self.now in
    λ names m before at reaches. answers _ _ names m before c.args.line c.args.text.now (Ok (Least _ _ _)) (sym (ap Ok h.field-0-is) ∙ h.ensures) reaches
    (asks_named d.session.state.model c.args.line h.by (Ok c.in-Ok.arc) _ _ _ c.in-Ok.ensures.arc c.reply_arc.ensures.says)

pub returns-in-Err-find_arc-clause-answers : goal.returns-in-Err-find_arc-clause-answers
returns-in-Err-find_arc-clause-answers g c =
    let h = c.in-Ok-Least in
    let d = c.args.self.now in
    let fault = c.in-Err-find_arc.fault in
    λ names m before at reaches. answers _ _ names m before c.args.line c.args.text.now (Ok (Least _ _ _)) (sym (ap Ok h.field-0-is) ∙ h.ensures) reaches
    (asks_named d.session.state.model c.args.line h.by (Err fault) _ _ _ c.in-Err-find_arc.ensures.arc
    (code_said (λ r. AsksLeast d.session.state.model c.args.line h.by (Err fault) r) d c.args.line _ _ _ _ _ c.code.ensures refl
    c.put_refusal.ensures))

pub returns-in-Err-clause-answers : goal.returns-in-Err-clause-answers
returns-in-Err-clause-answers g c =
    let h = c.in-Err in
    let d = c.args.self.now in
    λ names m before at reaches. answers _ _ names m before c.args.line c.args.text.now (Err h.fault) h.ensures reaches
    (code_said (λ r. StudyReplies d.names d.session.state.model c.args.line (Err h.fault) r) d c.args.line _ _ _ _ _ c.code-in-Err.ensures refl
    c.put_refusal-in-Err.ensures)
