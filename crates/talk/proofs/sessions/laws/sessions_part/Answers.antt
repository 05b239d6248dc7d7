use Rattle.talk.specs.Sessions.{session}
use Rattle.talk.proofs.TalkLemmas.{parts_of}
use Rattle.talk.proofs.sessions.laws.sessions_part.Goals as goal

pub returns : goal.returns
returns c = λ names m. parts_of (session names m)
