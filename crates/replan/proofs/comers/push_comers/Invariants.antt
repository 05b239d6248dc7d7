use Rattle.std.proofs.Common.{◌≡◌, ◌++◌}
use Rattle.std.specs.List.{flat_map}
use Rattle.evac_law.specs.Entrants.{table_entrant}
use Rattle.evac_law.specs.Sums.{below}
use Rattle.replan.specs.Rest.{rest_entry}
use Rattle.replan.proofs.comers.push_comers.Given as goal

abbrev pub invariant-loop-moment : goal.invariant-loop-moment
invariant-loop-moment g l =
    l.comers.items
    ≡ l.fn.comers.items ++ flat_map (table_entrant (rest_entry l.layout (g.F.Standing.stand l.standing).plan l.from) l.node) (below l.moment)
