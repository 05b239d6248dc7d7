use Rattle.line_io.proofs.CallLemmas.{asks-none}
use Rattle.talk.specs.Statuses.{status_number}
use Rattle.talk.proofs.Holding.{held_none}
use Rattle.talk.proofs.Sending.{short_held}
use Rattle.talk.proofs.hold.hold_talk.Goals as goal

pub returns-in-Ok-clause-held : goal.returns-in-Ok-clause-held
returns-in-Ok-clause-held g c =
    let b = c.in-Ok.ensures.begins in
    c.hold_begun.ensures.held c.args.building.names c.args.building.model b.0 c.args.steps.now b.2 (c.in-Ok.ensures.reaches c.args.channel.now.lines.now.number) b.1

pub returns-in-Err-NotCleared-clause-held : goal.returns-in-Err-NotCleared-clause-held
returns-in-Err-NotCleared-clause-held g c =
    let d = c.args.building in
    let b = c.in-Err-NotCleared.ensures.begins in
    short_held (g.T.Speaker.talk d.names d.model) d.model c.in-Err-NotCleared.field-0 c.in-Err-NotCleared.short (status_number c.status_after.result) c.number-line.result b.0 _ _ _ _ _ _ _ _ _ _ _
    (g.met.T.Speaker.refuses d.names d.model) c.in-Err-NotCleared.field-0-is b.2 c.number-line.ensures.number b.1 c.requires.fresh
    (record { sent = c.send_short.result; over = c.status_after.ensures; sends = c.send_short.ensures })

pub returns-in-Err-NotCleared-clause-asks : goal.returns-in-Err-NotCleared-clause-asks
returns-in-Err-NotCleared-clause-asks g c = asks-none g.S.Source.takes _ _

pub returns-in-Err-Memory-clause-held : goal.returns-in-Err-Memory-clause-held
returns-in-Err-Memory-clause-held g c =
    let d = c.args.building in held_none (g.T.Speaker.talk d.names d.model) _ _ _ _ _ _ _ _ c.in-Err-Memory.ensures.begins.1

pub returns-in-Err-Memory-clause-asks : goal.returns-in-Err-Memory-clause-asks
returns-in-Err-Memory-clause-asks g c = asks-none g.S.Source.takes _ _
