use Rattle.std.proofs.Common.{arith}
use Rattle.evac_law.proofs.MoveLemmas.{moved-moves_of}
use Rattle.cards.proofs.plan.PlanCopy.moved.Goals as goal

pub returns : goal.returns
returns c = grind (arith, moved-moves_of)
