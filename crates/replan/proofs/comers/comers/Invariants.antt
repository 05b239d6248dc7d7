use Rattle.std.proofs.Common.{◌≡◌}
use Rattle.std.specs.List.{flat_map}
use Rattle.evac_law.specs.Entrants.{table_entrant}
use Rattle.evac_law.specs.Sums.{below, moments_to}
use Rattle.replan.specs.Rest.{rest_entry}
use Rattle.replan.proofs.comers.comers.Given as goal

abbrev pub invariant-loop-node : goal.invariant-loop-node
invariant-loop-node g l =
    l.comers.items
    ≡ flat_map (λ n. flat_map (table_entrant (rest_entry l.layout (g.F.Standing.stand l.standing).plan l.from) n) (moments_to l.layout.horizon)) (below l.node)
