use Rattle.std.proofs.Common.{arith}
use Rattle.std.proofs.lemmas.List.{take_all}
use Rattle.evac_law.proofs.MoveLemmas.{arcs-moves_of}
use Rattle.plan_layout.proofs.ShapeLemmas.{listed_arc_to}
use Rattle.cards.proofs.Listed.{coming_listed}
use Rattle.cards.proofs.plan.PlanCopy.coming.Goals as goal

pub brought-requires-clause-arc_in : goal.brought-requires-clause-arc_in
brought-requires-clause-arc_in c = grind (arith, listed_arc_to)

pub returns-clause-coming : goal.returns-clause-coming
returns-clause-coming c = grind (arith, arcs-moves_of, take_all, coming_listed)
