use Rattle.std.proofs.Common.{arith}
use Rattle.talk.proofs.Back.{back}
use Rattle.talk.proofs.Bridge.{begin_opens}
use Rattle.talk.proofs.DeskLemmas.{desk_opened}
use Rattle.talk.proofs.sessions.speaker.SessionTalkSpeaker.begin.Goals as goal

pub returns-clause-begins : goal.returns-clause-begins
returns-clause-begins g c =
    let made = c.in-Ok.ensures in
    let begun = c.in_ok-session.ensures in
    (begun.0, begun.1, begin_opens back c.args.building.model c.in-Ok.desk c.in_ok-session.session begun.0 made.first begun.2)

pub returns-clause-reaches : goal.returns-clause-reaches
returns-clause-reaches g c = let made = c.in-Ok.ensures in λ before. (made.names, omega (arith, made.first))

pub returns-clause-ready : goal.returns-clause-ready
returns-clause-ready g c =
    let made = c.in-Ok.ensures in
    desk_opened c.args.building.names c.args.building.model c.in-Ok.desk c.in_ok-session.session c.requires.names made.names made.tables c.in_ok-session.ensures.2.0
