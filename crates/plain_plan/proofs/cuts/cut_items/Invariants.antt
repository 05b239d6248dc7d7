use Rattle.std.proofs.Common.{◌≡◌, ◌++◌}
use Rattle.std.specs.List.{flat_map}
use Rattle.evac_law.specs.Certificates.{label_cut}
use Rattle.evac_law.specs.Cuts.{arc_part, entry_items, entry_part, hold_items, hold_part}
use Rattle.evac_law.specs.Sums.{below, moments_to, places}
use Rattle.plain_plan.proofs.cuts.cut_items.Given as goal

abbrev pub invariant-entries : goal.invariant-entries
invariant-entries l =
    let x = label_cut l.model l.labels l.k in
    l.items.items ≡ flat_map (λ n. flat_map (entry_part l.model x n) (moments_to l.k)) (below l.node)

abbrev pub invariant-holds : goal.invariant-holds
invariant-holds l =
    let x = label_cut l.model l.labels l.k in
    l.items.items ≡ entry_items l.model x l.k ++ flat_map (λ n. flat_map (hold_part l.model x n) (below l.k)) (below l.node)

abbrev pub invariant-arcs : goal.invariant-arcs
invariant-arcs l =
    let x = label_cut l.model l.labels l.k in
    l.items.items ≡ entry_items l.model x l.k ++ (hold_items l.model x l.k
    ++ flat_map (λ t. flat_map (arc_part l.model x l.k t) (places l.model.arcs)) (below l.moment))
