use Rattle.talk.specs.SessionDesks.{desk_state}
use Rattle.talk.specs.Sessions.{Undoes}
use Rattle.talk.proofs.Saying.{with_steps}
use Rattle.talk.proofs.sessions.speaker.reply_undo.Goals as goal

pub returns-clause-says : goal.returns-clause-says
returns-clause-says g c =
    let t = c.args.talk.now in
    let e = c.undo-undone.ensures.ends in
    λ before. with_steps (λ r. Undoes c.args.line (desk_state t.desk t.session) t.session.state.former r) _ c.reply_undone.new.desk c.undo-undone.new.self _ _ _ e.1
    (c.reply_undone.ensures.says t.session e.0 c.args.steps.now e.2 before)

pub returns-clause-desk : goal.returns-clause-desk
returns-clause-desk g c = let e = c.undo-undone.ensures.ends in c.reply_undone.ensures.desk _ e.0 e.2 c.requires.desk
