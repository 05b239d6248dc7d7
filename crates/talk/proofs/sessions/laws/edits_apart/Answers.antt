use Rattle.talk.proofs.Same.{edits_apart}
use Rattle.talk.proofs.sessions.laws.edits_apart.Goals as goal

pub returns : goal.returns
returns c = edits_apart
