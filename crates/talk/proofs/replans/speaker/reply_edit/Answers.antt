use Rattle.std.proofs.Common.{Err, Ok, refl, sym, ap, arith}
use Rattle.replan.specs.Replans.{ReplanView}
use Rattle.talk.proofs.Editing.{desk_stands, edit_stands, edited_said, late_said, refused_by}
use Rattle.talk.proofs.replans.speaker.reply_edit.Goals as goal

pub returns-in-Ok-clause-says : goal.returns-in-Ok-clause-says
returns-in-Ok-clause-says g c =
    let t = c.args.talk.now in
    let e = c.in-Ok.ensures in
    λ before. edited_said c.args.line e.0 _ c.args.steps.now t.desk c.reply_edited.new.desk t.replan c.edit.new.self c.session-session.result.now _ _
    c.args.edit (Ok c.in-Ok.work) e.2.0 e.2.1 e.2.2 c.session-session.ensures e.1 (λ ends. c.reply_edited.ensures.says t.replan.session c.args.edit e.0 c.args.steps.now ends before)

pub returns-in-Ok-clause-desk : goal.returns-in-Ok-clause-desk
returns-in-Ok-clause-desk g c =
    let t = c.args.talk.now in
    let e = c.in-Ok.ensures in
    let is = c.session-session.ensures in
    desk_stands _ _ _ is (c.reply_edited.ensures.desk t.replan.session c.args.edit e.0 (edit_stands t.replan.session c.args.edit (Ok c.in-Ok.work) _ _ e.0 is e.2.1) c.requires.desk)

pub returns-in-Err-Edit-clause-says : goal.returns-in-Err-Edit-clause-says
returns-in-Err-Edit-clause-says g c =
    let t = c.args.talk.now in
    let e = c.in-Err-Edit.ensures in
    let made = refused_by t.replan c.edit.new.self c.args.edit e.0 c.in-Err-Edit.field-0 _ c.in-Err-Edit.field-0-is e.2 in
    λ before. edited_said c.args.line e.0 _ c.args.steps.now t.desk c.reply_edited-in-Err-Edit.new.desk t.replan c.edit.new.self c.session-session-in-Err-Edit.result.now _ _
    c.args.edit (Err c.in-Err-Edit.refusal) made.0 made.1 made.2 c.session-session-in-Err-Edit.ensures e.1
    (λ ends. c.reply_edited-in-Err-Edit.ensures.says t.replan.session c.args.edit e.0 c.args.steps.now ends before)

pub returns-in-Err-Edit-clause-desk : goal.returns-in-Err-Edit-clause-desk
returns-in-Err-Edit-clause-desk g c =
    let t = c.args.talk.now in
    let e = c.in-Err-Edit.ensures in
    let is = c.session-session-in-Err-Edit.ensures in
    let made = refused_by t.replan c.edit.new.self c.args.edit e.0 c.in-Err-Edit.field-0 _ c.in-Err-Edit.field-0-is e.2 in
    desk_stands _ _ _ is
    (c.reply_edited-in-Err-Edit.ensures.desk t.replan.session c.args.edit e.0 (edit_stands t.replan.session c.args.edit (Err c.in-Err-Edit.refusal) _ _ e.0 is made.1) c.requires.desk)

pub returns-in-Err-Committed-clause-says : goal.returns-in-Err-Committed-clause-says
returns-in-Err-Committed-clause-says g c =
    let t = c.args.talk.now in
    let e = c.in-Err-Committed.ensures in
    let made = refused_by t.replan c.edit.new.self c.args.edit e.0 c.in-Err-Committed.field-0 _ c.in-Err-Committed.field-0-is e.2 in
    λ before. late_said c.args.line _ _ _ t.desk t.replan c.edit.new.self c.args.edit _ _ made.0 made.1 (omega (arith, e.1, made.2)) refl c.put_refusal.ensures

pub returns-in-Err-Committed-clause-desk : goal.returns-in-Err-Committed-clause-desk
returns-in-Err-Committed-clause-desk g c =
    let t = c.args.talk.now in
    let e = c.in-Err-Committed.ensures in
    let made = refused_by t.replan c.edit.new.self c.args.edit e.0 c.in-Err-Committed.field-0 _ c.in-Err-Committed.field-0-is e.2 in
    desk_stands t.desk t.replan.session c.edit.new.self.session (sym (ap (λ (v : ReplanView). v.session) made.1)) c.requires.desk
