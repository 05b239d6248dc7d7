use Rattle.std.proofs.Common.{arith}
use Rattle.std.proofs.lemmas.List.{take_all}
use Rattle.evac_law.proofs.MoveLemmas.{arcs-moves_of}
use Rattle.plan_layout.proofs.ShapeLemmas.{listed_arc}
use Rattle.cards.proofs.Listed.{leaving_listed}
use Rattle.cards.proofs.plan.PlanCopy.leaving.Goals as goal

pub moved-requires-clause-arc_in : goal.moved-requires-clause-arc_in
moved-requires-clause-arc_in c = grind (arith, listed_arc)

pub returns-clause-leaving : goal.returns-clause-leaving
returns-clause-leaving c = grind (arith, arcs-moves_of, take_all, leaving_listed)
