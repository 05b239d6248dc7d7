use Rattle.std.proofs.Common.{length, arith}
use Rattle.std.proofs.lemmas.List.{length-map}
use Rattle.evac_law.proofs.MoveLemmas.{ordered-moves_of}
use Rattle.plan_layout.specs.Tables.{people_at}
use Rattle.cards.proofs.Taken.{list_moves, stand_in_range}
use Rattle.cards.proofs.plan.PlanCopy.set.Goals as goal

pub returns-clause-moves : goal.returns-clause-moves
returns-clause-moves g c = grind (arith, length-map, list_moves, stand_in_range)

pub returns-clause-in_range : goal.returns-clause-in_range
returns-clause-in_range g c =
    let m = c.set_model.new.self in
    (ordered-moves_of (length m.arcs) m.horizon (people_at c.fill_moves.new.table)).in_range
