-- The texts so far.
use Rattle.std.proofs.Common.{◌≡◌, codes, map}
use Rattle.evac_law.specs.Sums.{below}
use Rattle.drill_building.proofs.building.floor_texts.Given as goal

abbrev pub invariant-loop : goal.invariant-loop
invariant-loop l = map (λ t. t.items) l.texts.items ≡ map (λ f. codes "storey") (below l.counter)
