use Rattle.std.proofs.Common.{◌+◌, arith, length}
use Rattle.residual_ways.proofs.SizesLemmas.{cells_small, rows_fit}
use Rattle.residual_ways.proofs.sizes.Sizes.of.Goals as goal
use Rattle.residual_ways.proofs.sizes.Sizes.of.Goals.{then-arcs-most-via-then-arcs-most, then-arcs-most-via-else-arcs-most+then-nodes-most}

pub returns-then-arcs-most-clause-all : goal.returns-then-arcs-most-clause-all
returns-then-arcs-most-clause-all c small =
    let arcs = length c.args.model.now.arcs in
    let nodes = length c.args.model.now.nodes in
    let moments = c.args.model.now.horizon + 1 in
    let fits = rows_fit arcs nodes moments (omega arith) small in
    absurd (elim c.then-arcs-most.branch [
      | then-arcs-most-via-then-arcs-most w ↦ omega (arith, fits, w)
      | then-arcs-most-via-else-arcs-most+then-nodes-most w ↦ omega (arith, fits, w)
    ])

pub new-requires-2-clause-small : goal.new-requires-2-clause-small
new-requires-2-clause-small c =
    omega (arith, cells_small c.len-arcs.result c.len-nodes.result (c.args.model.now.horizon + 1) (omega arith) (omega arith))
