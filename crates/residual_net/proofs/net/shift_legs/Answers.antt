use Rattle.std.proofs.Common.{◌≡◌, ◌+◌, false, List, drop, get_or, take, ap, sym, subst, ◌∙◌}
use Rattle.std.proofs.lemmas.List.{take_all, take_more}
use Rattle.residual_net.specs.declared.legs.Leg.{Leg}
use Rattle.residual_net.specs.declared.place.PathStep.{PathStep}
use Rattle.residual_net.specs.declared.place.Place.TheVariants.{Arc}
use Rattle.residual_net.specs.Legs.{IsShiftable, steps_of_leg, steps_of_legs}
use Rattle.residual_net.specs.Route.{IsPushed}
use Rattle.residual_net.specs.Site.{Site}
use Rattle.residual_net.proofs.Steps.{push_none, push_then}
use Rattle.residual_net.proofs.LegLemmas.{legs_from, legs_more, shiftable_after, shiftable_before}
use Rattle.residual_net.proofs.net.shift_legs.Goals as goal

abbrev blank : Leg
blank = record { since = 0; step = record { place = Arc 0 0; back = false } }

pub loop-leg-init : goal.loop-leg-init
loop-leg-init c = record { pushed = push_none c.args.grid.now c.args.people; left = c.requires.shiftable; grid = c.requires.grid }

pub shift_leg-requires-clause-shiftable : goal.shift_leg-requires-clause-shiftable
shift_leg-requires-clause-shiftable c =
    let i = c.loop-leg.leg-index in
    let gs = c.args.legs.now in
    let s = c.args.grid.now.site in
    let g = get_or gs i blank in
    let left = subst (λ (z : List PathStep). IsShiftable c.loop-leg.grid z c.args.people) (legs_from s gs i blank c.loop-leg-test.true) c.loop-leg.invariant.left in
    subst (λ (z : Site). IsShiftable c.loop-leg.grid (steps_of_leg z g) c.args.people) (sym c.loop-leg.invariant.pushed.site)
    (shiftable_before c.loop-leg.grid (steps_of_leg s g) (steps_of_legs s (drop (i + 1) gs)) c.args.people left)

pub loop-leg-preserved : goal.loop-leg-preserved
loop-leg-preserved c =
    let i = c.loop-leg.leg-index in
    let gs = c.args.legs.now in
    let g = get_or gs i blank in
    let w = c.args.grid.now in
    let s = w.site in
    let v = c.shift_leg.new.grid in
    let left = subst (λ (z : List PathStep). IsShiftable c.loop-leg.grid z c.args.people) (legs_from s gs i blank c.loop-leg-test.true) c.loop-leg.invariant.left in
    let more = ap (steps_of_legs s) (take_more gs i blank c.loop-leg-test.true) ∙ legs_more s (take i gs) g in
    let one : IsPushed c.loop-leg.grid v (steps_of_leg s g) c.args.people =
    subst (λ (z : Site). IsPushed c.loop-leg.grid v (steps_of_leg z g) c.args.people) c.loop-leg.invariant.pushed.site c.shift_leg.ensures.pushed in
    record {
      pushed = subst (λ (z : List PathStep). IsPushed w v z c.args.people) (sym more)
          (push_then w c.loop-leg.grid v (steps_of_legs s (take i gs)) (steps_of_leg s g) c.args.people c.loop-leg.invariant.pushed one);
      left = shiftable_after c.loop-leg.grid v (steps_of_leg s g) (steps_of_legs s (drop (i + 1) gs)) c.args.people left one;
      grid = c.shift_leg.ensures.grid;
    }

pub returns-clause-pushed : goal.returns-clause-pushed
returns-clause-pushed c =
    let all : take c.loop-leg.leg-index c.args.legs.now ≡ c.args.legs.now = take_all c.loop-leg.leg-index c.args.legs.now c.loop-leg-test.false in
    rw all at c.loop-leg.invariant.pushed
