use Rattle.talk.proofs.Same.{sessions_agree}
use Rattle.talk.proofs.sessions.laws.sessions_agree.Goals as goal

pub returns : goal.returns
returns c = sessions_agree
