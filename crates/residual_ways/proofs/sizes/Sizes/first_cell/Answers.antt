use Rattle.std.proofs.Common.{◌+◌, ◌*◌, ap, ◌∙◌, arith}
use Rattle.residual_ways.proofs.LayoutLemmas.{arc_stands, wait_stands}
use Rattle.residual_ways.proofs.SizesLemmas.{row_ends}
use Rattle.residual_ways.proofs.sizes.Sizes.first_cell.Goals as goal

pub overflow_mul-result : goal.overflow_mul-result
overflow_mul-result c =
    let s = c.args.self.now in
    omega (arith, row_ends c.args.row (s.arcs + s.nodes) s.moments c.requires)

pub returns-clause-arc : goal.returns-clause-arc
returns-clause-arc c site same low =
    let s = c.args.self.now in
    omega (arith, arc_stands site s c.args.row 0 same)

pub returns-clause-wait : goal.returns-clause-wait
returns-clause-wait c site node same row =
    let s = c.args.self.now in
    wait_stands site s node 0 same ∙ ap (λ r. r * s.moments + 0) row ∙ omega arith

pub returns-clause-within : goal.returns-clause-within
returns-clause-within c =
    let s = c.args.self.now in
    omega (arith, row_ends c.args.row (s.arcs + s.nodes) s.moments c.requires)
