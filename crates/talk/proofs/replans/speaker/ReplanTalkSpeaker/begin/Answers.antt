use Rattle.std.proofs.Common.{arith}
use Rattle.talk.proofs.Back.{back}
use Rattle.talk.proofs.DeskLemmas.{desk_opened}
use Rattle.talk.proofs.ReplanBeginning.{begun_opens}
use Rattle.talk.proofs.replans.speaker.ReplanTalkSpeaker.begin.Goals as goal

pub returns-clause-begins : goal.returns-clause-begins
returns-clause-begins g c =
    let begun = c.in_ok-replan.ensures in
    (begun.0, begun.1, begun_opens back c.args.building.model c.in-Ok.desk c.in_ok-replan.replan begun.0 c.in-Ok.ensures.first begun.2)

pub returns-clause-reaches : goal.returns-clause-reaches
returns-clause-reaches g c = let made = c.in-Ok.ensures in λ before. (made.names, omega (arith, made.first))

pub returns-clause-ready : goal.returns-clause-ready
returns-clause-ready g c =
    let made = c.in-Ok.ensures in
    desk_opened c.args.building.names c.args.building.model c.in-Ok.desk c.in_ok-replan.replan.session c.requires.names made.names made.tables c.in_ok-replan.ensures.2.0.0
