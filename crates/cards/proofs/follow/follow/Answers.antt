use Rattle.std.proofs.Common.{◌++◌, [], ◌∷◌, List, length, ap, sym, ◌∙◌, arith, subst, append_assoc}
use Rattle.std.proofs.lemmas.List.{append-nil, length-append}
use Rattle.evac_law.specs.declared.model.Model.{Model}
use Rattle.evac_law.specs.Building.{is_exit_at}
use Rattle.route_decompose.specs.declared.route.RouteStep.{RouteStep}
use Rattle.route_decompose.specs.Stocks.{TrailView}
use Rattle.cards.specs.Numbers.{FollowsNumbers}
use Rattle.cards.proofs.Following.{before_last, comes_later, follows_on}
use Rattle.cards.proofs.follow.follow.Goals as goal

pub add-requires : goal.add-requires
add-requires c = grind (arith, before_last)

pub loop-comer-smaller : goal.loop-comer-smaller
loop-comer-smaller c =
    let w = c.args.counts.now in
    let here = c.loop-comer.invariant in
    let later = comes_later w.plan.model w.plan.moves c.requires.counts.takes c.loop-comer.comer c.leaver_of-leaver.result c.comer_of-comer.result here.comer
    c.leaver_of-leaver.ensures c.comer_of-comer.ensures.next in
    omega (arith, later, c.comer_of-comer.ensures.comer.in_time)

pub loop-comer-preserved : goal.loop-comer-preserved
loop-comer-preserved c =
    let w = c.args.counts.now in
    let m = w.plan.model in
    let p = w.plan.moves in
    let here = c.loop-comer.invariant in
    let step = c.leaver_of-leaver.result.step in
    let added = ap (λ (r : TrailView). r.steps) c.add.ensures in
    let later = comes_later m p c.requires.counts.takes c.loop-comer.comer c.leaver_of-leaver.result c.comer_of-comer.result here.comer c.leaver_of-leaver.ensures
    c.comer_of-comer.ensures.next in
    record {
      room = ap (λ (r : TrailView). r.room) c.add.ensures ∙ here.room;
      comer = c.comer_of-comer.ensures.comer;
      few = omega (arith, ap length added, length-append c.loop-comer.trail.steps (step ∷ []), here.few, later);
      follows = λ more f.
          let on = here.follows (step ∷ more)
          (follows_on m p c.requires.counts.takes c.loop-comer.comer c.leaver_of-leaver.result c.comer_of-comer.result more c.leaver_of-leaver.ensures
          c.comer_of-comer.ensures.next f) in
          let joined = ap (λ (xs : List RouteStep). xs ++ more) added ∙ append_assoc c.loop-comer.trail.steps (step ∷ []) more in
          subst (λ (xs : List RouteStep). FollowsNumbers m p c.args.first.node c.args.first.number xs) (sym joined) on;
    }

pub returns-clause-follows : goal.returns-clause-follows
returns-clause-follows c =
    let w = c.args.counts.now in
    subst (λ (xs : List RouteStep). FollowsNumbers w.plan.model w.plan.moves c.args.first.node c.args.first.number xs) (append-nil c.loop-comer.trail.steps)
    (c.loop-comer.invariant.follows [] (sym (c.is_exit.ensures ∙ ap (λ (m : Model). is_exit_at m c.loop-comer.comer.node) c.layout.ensures) ∙ c.loop-comer-test.false))
