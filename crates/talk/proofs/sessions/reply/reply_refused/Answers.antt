use Rattle.talk.proofs.Saying.{edit_barred, edit_faulted}
use Rattle.talk.proofs.sessions.reply.reply_refused.Goals as goal

pub returns-in-Fault-clause-says : goal.returns-in-Fault-clause-says
returns-in-Fault-clause-says g c = λ d v e n k ends.
    edit_faulted c.args.line n _ k d v c.args.session.now e c.in-Fault.fault _ _ (rw c.in-Fault.is at ends) c.code.ensures c.put_refusal.ensures

pub returns-in-NotCleared-clause-says : goal.returns-in-NotCleared-clause-says
returns-in-NotCleared-clause-says g c = λ d v e n k ends.
    edit_barred c.args.line n k d v c.args.session.now e c.in-NotCleared.people c.in-NotCleared.most _ _ (rw c.in-NotCleared.is at ends) c.put_barred.ensures.text
