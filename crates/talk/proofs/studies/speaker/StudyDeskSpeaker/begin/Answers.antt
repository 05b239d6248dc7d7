use Rattle.talk.proofs.StudyBeginning.{begun_keeps, begun_opens}
use Rattle.talk.proofs.studies.speaker.StudyDeskSpeaker.begin.Goals as goal

pub returns-clause-begins : goal.returns-clause-begins
returns-clause-begins g c = let b = c.new.ensures in (b.0, b.1, begun_opens _ _ c.new.result b.0 b.2)

pub returns-clause-reaches : goal.returns-clause-reaches
returns-clause-reaches g c = let b = c.new.ensures in begun_keeps _ _ c.new.result b.0 b.2
