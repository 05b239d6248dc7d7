use Rattle.std.proofs.Common.{◌≡◌, ◌∙◌, length, get_or, ap, sym, arith}
use Rattle.time_expansion.specs.Expansion.{arcs_from}
use Rattle.time_expansion.proofs.Lists as lists
use Rattle.residual_net.specs.declared.place.Place.TheVariants.{Arc}
use Rattle.residual_net.specs.Network.{flow_at}
use Rattle.residual_net.proofs.Walks.{hold_some}
use Rattle.residual_net.proofs.cancel.place_out.Goals as goal

pub loop-arc-init : goal.loop-arc-init
loop-arc-init c = record {
  arcs = c.leaving-arcs.ensures ∙ ap (λ x. arcs_from x c.args.node) c.shape.ensures.shape;
  listed = rw (c.leaving-arcs.ensures, c.shape.ensures.shape) (λ i d l. lists.arc_out c.args.grid.now.site.shape c.args.node i d l);
  none = λ i l. absurd (omega (arith, l));
}

pub returns-clause-some : goal.returns-clause-some
returns-clause-some c =
    let w = c.args.grid.now in
    hold_some w c.args.node c.args.moment
    (λ a place from.
    let listed = lists.out_listed w.site.shape c.args.node a place.0 from in
    let here : get_or c.leaving-arcs.result.now listed.0 0 ≡ a = ap (λ z. get_or z listed.0 0) c.loop-arc.invariant.arcs ∙ listed.2 in
    ap (λ z. flow_at w (Arc z c.args.moment)) (sym here)
    ∙ c.loop-arc.invariant.none listed.0 (omega (arith, listed.1, ap length c.loop-arc.invariant.arcs, c.loop-arc-test.false)))
    c.requires.some
