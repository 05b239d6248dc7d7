use Rattle.std.proofs.Common.{◌≡◌, ◌-◌, ◌++◌, sym, ap, ◌∙◌, arith, append_assoc}
use Rattle.std.specs.List.{flat_map}
use Rattle.drill_building.specs.Drill.{drill_arcs, ground_arcs, storey_arcs, storeys}
use Rattle.drill_building.proofs.Storeys.{storeys-more}
use Rattle.drill_building.proofs.rows.drill_arcs.Goals as goal

pub loop-storey-preserved : goal.loop-storey-preserved
loop-storey-preserved c =
    let f = c.loop-storey.storey in
    c.in_ok-push_storey.ensures ∙ ap (λ xs. xs ++ storey_arcs f) c.loop-storey.invariant
    ∙ append_assoc ground_arcs (flat_map storey_arcs (storeys (f - 1))) (storey_arcs f)
    ∙ ap (λ l. ground_arcs ++ l) (sym (storeys-more storey_arcs f c.loop-storey.auto.storey))

pub returns : goal.returns
unfolding drill_arcs
returns c =
    let last : c.loop-storey.storey - 1 ≡ c.args.storeys = omega (arith, c.loop-storey-test.false, c.loop-storey.auto.storey-end) in
    c.loop-storey.invariant ∙ ap (λ n. ground_arcs ++ flat_map storey_arcs (storeys n)) last
