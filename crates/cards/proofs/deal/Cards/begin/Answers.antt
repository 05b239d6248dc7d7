use Rattle.std.proofs.Common.{arith}
use Rattle.cards.proofs.Entrants.{dealt-first}
use Rattle.cards.proofs.deal.Cards.begin.Goals as goal

pub invariant_of-self : goal.invariant_of-self
invariant_of-self g c = grind (arith, dealt-first)
