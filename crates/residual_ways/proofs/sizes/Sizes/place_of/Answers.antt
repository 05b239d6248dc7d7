use Rattle.std.proofs.Common.{◌≡◌, ◌+◌, ◌-◌, ◌*◌, ◌/◌, ◌%◌, ap, ◌∙◌, arith}
use Rattle.std.proofs.lemmas.Nat.{div-add-mod'}
use Rattle.residual_ways.proofs.LayoutLemmas.{arc_stands, supply_stands, wait_stands}
use Rattle.residual_ways.proofs.sizes.Sizes.place_of.Goals as goal

pub returns-then-row-self : goal.returns-then-row-self
returns-then-row-self c site same =
    let s = c.args.self.now in
    arc_stands site s (c.args.cell / s.moments) (c.args.cell % s.moments) same ∙ div-add-mod' c.args.cell s.moments

pub returns-then-node-self : goal.returns-then-node-self
returns-then-node-self c site same =
    let s = c.args.self.now in
    let row = c.args.cell / s.moments in
    let moment = c.args.cell % s.moments in
    let there : s.arcs + (row - s.arcs) ≡ row = omega (arith, c.if-row-self.false) in
    wait_stands site s (row - s.arcs) moment same
    ∙ ap (λ r. r * s.moments + moment) there
    ∙ div-add-mod' c.args.cell s.moments

pub returns : goal.returns
returns c site same =
    let s = c.args.self.now in
    let row = c.args.cell / s.moments in
    let moment = c.args.cell % s.moments in
    let node = row - s.arcs - s.nodes in
    let there : s.nodes + s.arcs + node ≡ row = omega (arith, c.if-row-self.false, c.if-node-self.false) in
    let rows : (s.nodes + s.arcs) * s.moments + (node * s.moments + moment) ≡ (s.nodes + s.arcs + node) * s.moments + moment = omega arith in
    supply_stands site s node moment same
    ∙ rows
    ∙ ap (λ r. r * s.moments + moment) there
    ∙ div-add-mod' c.args.cell s.moments
