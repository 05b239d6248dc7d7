use Rattle.std.proofs.Common.{◌≡◌, map, take}
use Rattle.floor_index.specs.Floors.{nodes_on}
use Rattle.floor_index.proofs.lists_of.Given as goal

abbrev pub invariant-loop-floor : goal.invariant-loop-floor
invariant-loop-floor l = map (λ v. v.items) l.lists.items ≡ map (nodes_on l.model) (take l.floor-index l.floors)
