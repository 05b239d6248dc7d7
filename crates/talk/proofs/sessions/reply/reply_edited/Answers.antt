use Rattle.talk.proofs.Back.{back}
use Rattle.talk.proofs.DeskLemmas.{with_edited, with_index}
use Rattle.talk.proofs.Saying.{edit_made}
use Rattle.talk.proofs.sessions.reply.reply_edited.Goals as goal

pub returns-in-Ok-clause-says : goal.returns-in-Ok-clause-says
returns-in-Ok-clause-says g c = λ v e n k ends before.
    edit_made back c.args.line n k c.args.desk.now c.count_block.new.self v c.args.session.now e c.in-Ok.field-0 _ _ before c.requires c.count_block.ensures.next
    c.count_block.ensures.same (rw c.in-Ok.is at ends) c.put_block.ensures

pub returns-in-Ok-clause-desk : goal.returns-in-Ok-clause-desk
returns-in-Ok-clause-desk g c = λ v e n ends h.
    with_index c.args.desk.now c.count_block.new.self c.args.session.now c.count_block.ensures.same (with_edited c.args.desk.now v c.args.session.now e c.args.edited n h ends)

pub returns-in-Err-clause-says : goal.returns-in-Err-clause-says
returns-in-Err-clause-says g c = λ v e n k ends before.
    c.reply_refused.ensures.says c.args.desk.now v e n k (rw c.in-Err.is at ends)

pub returns-in-Err-clause-desk : goal.returns-in-Err-clause-desk
returns-in-Err-clause-desk g c = λ v e n ends h. with_edited c.args.desk.now v c.args.session.now e c.args.edited n h ends
