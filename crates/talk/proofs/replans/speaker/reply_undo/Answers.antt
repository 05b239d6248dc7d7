use Rattle.talk.proofs.Editing.{desk_stands, undo_stands, undone_said}
use Rattle.talk.proofs.replans.speaker.reply_undo.Goals as goal

pub returns-clause-says : goal.returns-clause-says
returns-clause-says g c =
    let t = c.args.talk.now in
    let e = c.undo-undone.ensures in
    λ before. undone_said c.args.line e.0 _ c.args.steps.now t.desk c.reply_undone.new.desk t.replan c.undo-undone.new.self c.session-session.result.now _ _ t.desk.names
    c.undo-undone.result e.2 c.session-session.ensures e.1 (λ ends. c.reply_undone.ensures.says t.replan.session e.0 c.args.steps.now ends before)

pub returns-clause-desk : goal.returns-clause-desk
returns-clause-desk g c =
    let t = c.args.talk.now in
    let e = c.undo-undone.ensures in
    let is = c.session-session.ensures in
    desk_stands _ _ _ is (c.reply_undone.ensures.desk t.replan.session e.0 (undo_stands t.replan.session c.undo-undone.result _ _ e.0 is e.2.0) c.requires.desk)
