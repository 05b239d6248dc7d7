use Rattle.std.proofs.Common.{◌∙◌, sym, subst}
use Rattle.time_expansion.specs.Expansion.{IsExpansion}
use Rattle.plan_layout.proofs.ShapeLemmas.{shape_made, valid_shape}
use Rattle.plan_layout.proofs.layout.shape_of.Goals as goal

pub new-requires : goal.new-requires
new-requires c =
    let m = c.args.model.now in
    subst IsExpansion
    (sym (shape_made m c.node_count.result c.as_slice-2.result.now c.as_slice.result.now c.node_count.ensures.count c.as_slice.ensures (c.as_slice-2.ensures.value ∙ c.in_ok-ends.ensures)))
    (valid_shape m c.requires)
