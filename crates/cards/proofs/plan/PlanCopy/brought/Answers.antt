use Rattle.std.proofs.Common.{arith}
use Rattle.cards.proofs.Numbers.{brought_late, brought_none}
use Rattle.cards.proofs.plan.PlanCopy.brought.Goals as goal

pub returns-then-moment-travel : goal.returns-then-moment-travel
returns-then-moment-travel c = grind (arith, brought_none)

pub returns : goal.returns
returns c = grind (arith, brought_late)
