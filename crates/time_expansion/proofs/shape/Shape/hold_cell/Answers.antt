use Rattle.std.proofs.Common.{◌≡◌, ◌∙◌, ap, length, arith}
use Rattle.time_expansion.specs.Expansion.{Expansion}
use Rattle.time_expansion.proofs.Cells.{sizes}
use Rattle.time_expansion.proofs.shape.Shape.hold_cell.Goals as goal

pub overflow_cast-arcs : goal.overflow_cast-arcs
overflow_cast-arcs c =
    let size = sizes c.args.self.now (rw c.self.view_is at c.self.invariant.expansion) in
    let arcs : length c.as_slice.result.now ≡ length c.args.self.now.ends = ap length (c.as_slice.ensures.value ∙ ap (λ (z : Expansion). z.ends) c.self.view_is) in
    omega (arith, arcs, size.arcs)

pub overflow_add-row : goal.overflow_add-row
overflow_add-row c =
    let size = sizes c.args.self.now (rw c.self.view_is at c.self.invariant.expansion) in
    let arcs : length c.as_slice.result.now ≡ length c.args.self.now.ends = ap length (c.as_slice.ensures.value ∙ ap (λ (z : Expansion). z.ends) c.self.view_is) in
    omega (arith, arcs, size.arcs, size.nodes, c.requires.node_in)
