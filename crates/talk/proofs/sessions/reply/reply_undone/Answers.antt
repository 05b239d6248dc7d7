use Rattle.talk.proofs.Back.{back}
use Rattle.talk.proofs.DeskLemmas.{with_index, with_undone}
use Rattle.talk.proofs.Saying.{undo_made, undo_none}
use Rattle.talk.proofs.sessions.reply.reply_undone.Goals as goal

pub returns-in-Ok-clause-says : goal.returns-in-Ok-clause-says
returns-in-Ok-clause-says g c = λ v n k ends before.
    undo_made back c.args.line n k c.args.desk.now c.count_block.new.self v c.args.session.now c.in-Ok.field-0 _ _ before c.requires c.count_block.ensures.next
    c.count_block.ensures.same (rw c.in-Ok.is at ends) c.put_block.ensures

pub returns-in-Ok-clause-desk : goal.returns-in-Ok-clause-desk
returns-in-Ok-clause-desk g c = λ v n ends h.
    with_index c.args.desk.now c.count_block.new.self c.args.session.now c.count_block.ensures.same (with_undone c.args.desk.now v c.args.session.now c.args.undone n h ends)

pub returns-in-Err-NothingToUndo-clause-says : goal.returns-in-Err-NothingToUndo-clause-says
returns-in-Err-NothingToUndo-clause-says g c = λ v n k ends before.
    undo_none c.in-Err-NothingToUndo.field-0 c.args.line n k c.args.desk.now v c.args.session.now _ _ (rw c.in-Err-NothingToUndo.is at ends) c.put_refusal.ensures

pub returns-in-Err-NothingToUndo-clause-desk : goal.returns-in-Err-NothingToUndo-clause-desk
returns-in-Err-NothingToUndo-clause-desk g c = λ v n ends h. with_undone c.args.desk.now v c.args.session.now c.args.undone n h ends
