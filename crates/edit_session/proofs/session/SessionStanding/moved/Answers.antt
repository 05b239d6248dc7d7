use Rattle.std.proofs.Common.{arith}
use Rattle.evac_law.proofs.MoveLemmas.{moved-moves_of}
use Rattle.edit_session.proofs.session.SessionStanding.moved.Goals as goal

pub returns : goal.returns
returns c = grind (arith, moved-moves_of)
