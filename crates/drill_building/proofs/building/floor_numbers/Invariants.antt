-- The floors so far.
use Rattle.std.proofs.Common.{◌≡◌}
use Rattle.evac_law.specs.Sums.{below}
use Rattle.drill_building.proofs.building.floor_numbers.Given as goal

abbrev pub invariant-loop-floor : goal.invariant-loop-floor
invariant-loop-floor l = l.floors.items ≡ below l.floor
