use Rattle.std.proofs.Common.{◌≡◌, ◌∙◌, length, get_or, ap, sym, arith}
use Rattle.time_expansion.specs.Expansion.{arcs_to}
use Rattle.time_expansion.proofs.Lists as lists
use Rattle.residual_net.specs.declared.place.Place.TheVariants.{Arc}
use Rattle.residual_net.specs.Site.{arrival_at}
use Rattle.residual_net.specs.Network.{flow_at}
use Rattle.residual_net.proofs.cancel.arc_into.Goals as goal

pub loop-arc-init : goal.loop-arc-init
loop-arc-init c = record {
  arcs = c.entering-arcs.ensures ∙ ap (λ x. arcs_to x c.args.node) c.shape.ensures.shape;
  listed = rw (c.entering-arcs.ensures, c.shape.ensures.shape) (λ i d l. lists.arc_into c.args.grid.now.site.shape c.args.node i d l);
  none = λ i s l. absurd (omega (arith, l));
}

pub returns-then-get-gt0 : goal.returns-then-get-gt0
returns-then-get-gt0 c = grind arith

pub returns : goal.returns
returns c a s place leads arrives =
    let listed = lists.into_listed c.args.grid.now.site.shape c.args.node a place.0 leads in
    let here : get_or c.entering-arcs.result.now listed.0 0 ≡ a = ap (λ z. get_or z listed.0 0) c.loop-arc.invariant.arcs ∙ listed.2 in
    let none = c.loop-arc.invariant.none listed.0 s (omega (arith, listed.1, ap length c.loop-arc.invariant.arcs, c.loop-arc-test.false)) in
    let when : arrival_at c.args.grid.now.site (get_or c.entering-arcs.result.now listed.0 0) s ≡ c.args.moment = ap (λ z. arrival_at c.args.grid.now.site z s) here ∙ arrives in
    ap (λ z. flow_at c.args.grid.now (Arc z s)) (sym here) ∙ none when
