use Rattle.std.proofs.Common.{◌≡◌, ◌++◌}
use Rattle.std.specs.List.{flat_map}
use Rattle.evac_law.specs.Certificates.{label_cut}
use Rattle.evac_law.specs.Cuts.{entry_part}
use Rattle.evac_law.specs.Sums.{below}
use Rattle.plain_plan.proofs.cuts.push_entries.Given as goal

abbrev pub invariant-loop-moment : goal.invariant-loop-moment
invariant-loop-moment l = l.items.items ≡ l.initial.items.items ++ flat_map (entry_part l.model (label_cut l.model l.labels l.k) l.node) (below l.moment)
