use Rattle.line_io.proofs.CallLemmas.{asks-none}
use Rattle.talk.specs.Speaking.{opened}
use Rattle.talk.specs.Statuses.{status_number}
use Rattle.talk.proofs.Going.{held_all, held_unopened}
use Rattle.talk.proofs.hold.hold_begun.Goals as goal

pub returns-in-Ok-clause-held : goal.returns-in-Ok-clause-held
returns-in-Ok-clause-held g c =
    let t = g.T.Speaker in
    let s = c.args.speaker in
    λ names m n k opens reaches counted. held_all (t.talk names m) (t.Reaches names m) (t.kept s) (opened (t.opening s) (t.state s) n) opens
    c.converse-ending.result (status_number c.conclude.result) c.number.result k _ _ _ _ _ _ _ _ _ _ _ _ _ _ _ _ _ tt reaches counted
    c.requires.fresh c.in-Ok.ensures (c.converse-ending.ensures.hears names m).1 c.converse-ending.ensures.cause c.number.ensures.number c.conclude.ensures

pub returns-in-Err-clause-held : goal.returns-in-Err-clause-held
returns-in-Err-clause-held g c =
    let t = g.T.Speaker in
    let s = c.args.speaker in
    λ names m n k opens reaches counted. held_unopened (t.talk names m) (t.Reaches names m) (t.kept s) (opened (t.opening s) (t.state s) n) opens
    _ k _ _ _ _ _ _ _ _ _ _ counted c.requires.fresh c.in-Err.ensures

pub returns-in-Err-clause-asks : goal.returns-in-Err-clause-asks
returns-in-Err-clause-asks g c = asks-none g.S.Source.takes _ _
