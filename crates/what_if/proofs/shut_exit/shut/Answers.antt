use Rattle.what_if.proofs.Cleared.{barred, faulted, made}
use Rattle.what_if.proofs.shut_exit.shut.Goals as goal

pub returns-in-Ok-edit : goal.returns-in-Ok-edit
returns-in-Ok-edit g c =
    let ends = c.in-Ok-edit.ensures.ends in
    made c.args.names.now c.args.exit c.args.session.now c.edit.new.self c.in-Ok.edit c.in-Ok-edit.field-0 ends.0 c.cleared-before.result c.cleared.result
    c.requires.solved c.in-Ok.ensures.edit ends.2 c.cleared-before.ensures c.cleared.ensures

pub returns-in-Err-NotCleared : goal.returns-in-Err-NotCleared
returns-in-Err-NotCleared g c =
    let here = c.in-Err-NotCleared in
    let ends = here.ensures.ends in
    barred c.args.names.now c.args.exit c.args.session.now c.edit.new.self c.in-Ok.edit here.field-0 ends.0 c.cleared-before.result here.people here.most
    c.requires.solved c.in-Ok.ensures.edit here.field-0-is ends.2 c.cleared-before.ensures

pub returns-in-Err-Fault : goal.returns-in-Err-Fault
returns-in-Err-Fault g c =
    let here = c.in-Err-Fault in
    let ends = here.ensures.ends in
    faulted c.args.names.now c.args.exit c.args.session.now c.edit.new.self c.in-Ok.edit here.field-0 here.fault ends.0 c.in-Ok.ensures.edit here.field-0-is ends.2
