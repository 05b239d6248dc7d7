use Rattle.std.proofs.Common.{subst, ◌∙◌}
use Rattle.time_expansion.specs.Expansion.{Expansion, arcs_to}
use Rattle.time_expansion.specs.Index.{IsIndex}
use Rattle.time_expansion.proofs.Lists.{index_lists, list_at}
use Rattle.time_expansion.proofs.shape.Shape.entering.Goals as goal

pub list-requires : goal.list-requires
list-requires c =
    let x = c.args.self.now in
    let index = c.self.inside.entering in
    let here = subst (λ (z : Expansion). IsIndex (arcs_to z) z.nodes index.starts.items index.items.items) c.self.view_is c.self.invariant.entered in
    index_lists (arcs_to x) x.nodes index.starts.items index.items.items c.args.node here c.requires

pub returns : goal.returns
returns c =
    let x = c.args.self.now in
    let index = c.self.inside.entering in
    let here = subst (λ (z : Expansion). IsIndex (arcs_to z) z.nodes index.starts.items index.items.items) c.self.view_is c.self.invariant.entered in
    c.list.ensures ∙ list_at (arcs_to x) x.nodes index.starts.items index.items.items c.args.node here c.requires
