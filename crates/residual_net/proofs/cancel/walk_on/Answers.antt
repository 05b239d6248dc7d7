use Rattle.std.proofs.Common.{◌∙◌, List, min, ap, subst, sym}
use Rattle.residual_net.specs.declared.place.PathStep.{PathStep}
use Rattle.residual_net.specs.Change.{IsLeastAlong}
use Rattle.residual_net.specs.Route.{Trail}
use Rattle.residual_net.proofs.Walks.{OnSoFar, on_more, ahead_is, least_along_after}
use Rattle.residual_net.proofs.cancel.walk_on.Goals as goal

pub place_out-here-requires : goal.place_out-here-requires
place_out-here-requires c =
    let on = c.loop-node.invariant.on in
    let here = ahead_is c.args.grid.now c.requires.net c.loop-node.here on.place on.some c.in-Pair.node c.in-Pair.moment (sym c.in-Pair.ensures) in
    record { pair = here.0; some = here.1 }

pub loop-node-preserved : goal.loop-node-preserved
loop-node-preserved c =
    let w = c.args.grid.now in
    let more = on_more w c.requires.net c.args.place c.loop-node.here c.place_out-here.result c.loop-node.path.steps c.in-Pair.node c.in-Pair.moment
    c.loop-node.invariant.on (sym c.in-Pair.ensures) c.place_out-here.ensures.place c.place_out-here.ensures.leads c.place_out-here.ensures.some in
    record {
      room = ap (λ (z : Trail). z.room) c.add.ensures ∙ c.loop-node.invariant.room;
      on = subst (λ (z : List PathStep). OnSoFar w c.args.place c.place_out-here.result z) (sym (ap (λ (z : Trail). z.steps) c.add.ensures)) more;
      people =
          subst (λ (z : List PathStep). IsLeastAlong w z c.args.most c.min-people.result) (sym (ap (λ (z : Trail). z.steps) c.add.ensures))
          (least_along_after w c.place_out-here.result c.loop-node.path.steps c.args.most c.loop-node.people c.min-people.result c.loop-node.invariant.people
          c.place_out-here.ensures.some (c.min-people.ensures ∙ ap (min c.loop-node.people) c.get.ensures.flow));
    }
