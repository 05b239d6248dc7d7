use Rattle.std.proofs.Common.{Err, Ok, refl}
use Rattle.talk.specs.SessionDesks.{desk_state}
use Rattle.talk.specs.Sessions.{AsksEdit}
use Rattle.talk.proofs.DeskLemmas.{desk_fit}
use Rattle.talk.proofs.Saying.{asks_named, code_said, with_steps}
use Rattle.talk.proofs.sessions.speaker.reply_edit.Goals as goal

pub edit-edited-requires : goal.edit-edited-requires
edit-edited-requires g c = c.in-Ok.ensures.within _ (desk_fit _ _ c.requires.desk)

pub returns-in-Ok-clause-says : goal.returns-in-Ok-clause-says
returns-in-Ok-clause-says g c =
    let t = c.args.talk.now in
    let s = desk_state t.desk t.session in
    let e = c.edit-edited.ensures.ends in
    λ before. asks_named c.args.line s (Ok c.in-Ok.edit) _ _ _ c.in-Ok.ensures.edit
    (with_steps (λ r. AsksEdit c.args.line s (Ok c.in-Ok.edit) r) _ c.reply_edited.new.desk c.edit-edited.new.self _ _ _ e.1 (c.reply_edited.ensures.says t.session c.in-Ok.edit e.0 c.args.steps.now e.2 before))

pub returns-in-Ok-clause-desk : goal.returns-in-Ok-clause-desk
returns-in-Ok-clause-desk g c = let e = c.edit-edited.ensures.ends in c.reply_edited.ensures.desk _ _ e.0 e.2 c.requires.desk

pub returns-in-Err-clause-says : goal.returns-in-Err-clause-says
returns-in-Err-clause-says g c =
    let t = c.args.talk.now in
    let s = desk_state t.desk t.session in
    λ before. asks_named c.args.line s (Err c.in-Err.fault) _ _ _ c.in-Err.ensures.edit
    (code_said (λ r. AsksEdit c.args.line s (Err c.in-Err.fault) r) c.args.line _ _ t.desk t.session _ _ _ c.code.ensures refl
    c.put_refusal.ensures)
