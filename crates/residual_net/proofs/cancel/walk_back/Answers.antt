use Rattle.std.proofs.Common.{◌≡◌, ◌∙◌, List, [], ◌∷◌, ◌++◌, min, reverse, ap, subst, sym, refl}
use Rattle.residual_net.specs.declared.place.PathStep.{PathStep}
use Rattle.std.proofs.lemmas.List.{reverse-append}
use Rattle.residual_net.specs.Change.{IsLeastAlong}
use Rattle.residual_net.specs.Route.{Trail}
use Rattle.residual_net.proofs.Walks.{BackSoFar, back_more, back_none, behind_is, least_along_before, least_along_none, step_on}
use Rattle.residual_net.proofs.cancel.walk_back.Goals as goal

pub loop-node-init : goal.loop-node-init
loop-node-init c =
    let w = c.args.grid.now in
    let one : c.add.new.self.steps ≡ step_on c.args.place ∷ [] =
    ap (λ (z : Trail). z.steps) c.add.ensures ∙ ap (λ (z : Trail). z.steps ++ step_on c.args.place ∷ []) c.clear.ensures in
    let people = least_along_before w c.args.place [] c.args.most c.args.most c.min-people.result (least_along_none w c.args.most c.requires.some) c.requires.flow
    (c.min-people.ensures ∙ ap (min c.args.most) c.get.ensures.flow) in
    record {
      room = refl;
      back = subst (λ (z : List PathStep). BackSoFar w c.args.place c.args.place z) (sym one) (back_none w c.requires.net c.args.place c.requires.place c.requires.flow);
      people = subst (λ (z : List PathStep). IsLeastAlong w (reverse z) c.args.most c.min-people.result) (sym one) people;
    }

pub place_into-here-requires : goal.place_into-here-requires
place_into-here-requires c =
    let back = c.loop-node.invariant.back in
    let here = behind_is c.args.grid.now c.requires.net c.loop-node.here back.place back.some c.in-Pair.node c.in-Pair.moment (sym c.in-Pair.ensures) in
    record { pair = here.0; some = here.1 }

pub loop-node-preserved : goal.loop-node-preserved
loop-node-preserved c =
    let w = c.args.grid.now in
    let more = back_more w c.requires.net c.args.place c.loop-node.here c.place_into-here.result c.loop-node.path.steps c.in-Pair.node c.in-Pair.moment
    c.loop-node.invariant.back (sym c.in-Pair.ensures) c.place_into-here.ensures.place c.place_into-here.ensures.leads c.place_into-here.ensures.some in
    record {
      room = ap (λ (z : Trail). z.room) c.add-in-Pair.ensures ∙ c.loop-node.invariant.room;
      back = subst (λ (z : List PathStep). BackSoFar w c.args.place c.place_into-here.result z) (sym (ap (λ (z : Trail). z.steps) c.add-in-Pair.ensures)) more;
      people =
          subst (λ (z : List PathStep). IsLeastAlong w z c.args.most c.min-people-in-Pair.result)
          (sym (ap (λ (z : Trail). reverse z.steps) c.add-in-Pair.ensures ∙ reverse-append c.loop-node.path.steps (step_on c.place_into-here.result ∷ [])))
          (least_along_before w c.place_into-here.result (reverse c.loop-node.path.steps) c.args.most c.loop-node.people c.min-people-in-Pair.result
          c.loop-node.invariant.people c.place_into-here.ensures.some (c.min-people-in-Pair.ensures ∙ ap (min c.loop-node.people) c.get-in-Pair.ensures.flow));
    }
