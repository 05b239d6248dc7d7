use Rattle.std.proofs.Common.{◌≡◌, ◌++◌}
use Rattle.std.specs.List.{flat_map}
use Rattle.evac_law.specs.Certificates.{label_cut}
use Rattle.evac_law.specs.Cuts.{arc_part}
use Rattle.evac_law.specs.Sums.{below}
use Rattle.plain_plan.proofs.cuts.push_arcs.Given as goal

abbrev pub invariant-loop-arc : goal.invariant-loop-arc
invariant-loop-arc l = l.items.items ≡ l.initial.items.items ++ flat_map (arc_part l.model (label_cut l.model l.labels l.k) l.k l.moment) (below l.arc)
