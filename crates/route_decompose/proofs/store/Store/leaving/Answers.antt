use Rattle.std.proofs.Common.{◌≡◌, ℕ, List, ◌∙◌, length, get_or, ap, sym, arith}
use Rattle.plan_layout.specs.Tables.{people_at}
use Rattle.route_decompose.proofs.Balance.{going_none}
use Rattle.plan_layout.proofs.ShapeLemmas.{arc_listed, listed_arc}
use Rattle.route_decompose.proofs.store.Store.leaving.Goals as goal

pub returns-clause-none : goal.returns-clause-none
returns-clause-none c =
    let s = c.args.self.now in
    let same = c.loop-arc.invariant.arcs in
    going_none s c.args.node c.args.moment
    (λ a l e. let listed = arc_listed s.model c.args.node a l e in
    let here : get_or c.arcs_at-arcs.result.now listed.0 0 ≡ a = ap (λ (z : List ℕ). get_or z listed.0 0) same ∙ listed.2 in
    ap (λ z. people_at s.left z c.args.moment) (sym here)
    ∙ c.loop-arc.invariant.none listed.0 (omega (arith, listed.1, ap length same, c.loop-arc-test.false)))

pub left-requires-clause-arc_in : goal.left-requires-clause-arc_in
left-requires-clause-arc_in c = grind (arith, listed_arc)

pub returns-then-left-gt0-clause-some : goal.returns-then-left-gt0-clause-some
returns-then-left-gt0-clause-some c = grind (arith, listed_arc)
