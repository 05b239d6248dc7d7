use Rattle.std.proofs.Common.{◌≡◌, ◌-◌, ◌++◌, sym, ap, ap₂, ◌∙◌, arith, append_assoc}
use Rattle.std.specs.List.{flat_map}
use Rattle.drill_building.specs.Drill.{drill_nodes, ground_nodes, storey_nodes, storeys}
use Rattle.drill_building.proofs.Storeys.{storeys-more}
use Rattle.drill_building.proofs.rows.drill_nodes.Goals as goal

pub loop-storey-preserved : goal.loop-storey-preserved
loop-storey-preserved c =
    let f = c.loop-storey.storey in
    c.in_ok-extend_from_slice.ensures.items ∙ ap₂ (λ xs ys. xs ++ ys) c.loop-storey.invariant c.storey_nodes.ensures
    ∙ append_assoc ground_nodes (flat_map storey_nodes (storeys (f - 1))) (storey_nodes f)
    ∙ ap (λ l. ground_nodes ++ l) (sym (storeys-more storey_nodes f c.loop-storey.auto.storey))

pub returns : goal.returns
unfolding drill_nodes
returns c =
    let last : c.loop-storey.storey - 1 ≡ c.args.storeys = omega (arith, c.loop-storey-test.false, c.loop-storey.auto.storey-end) in
    c.loop-storey.invariant ∙ ap (λ n. ground_nodes ++ flat_map storey_nodes (storeys n)) last
