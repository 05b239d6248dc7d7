use Rattle.std.proofs.Common.{ℕ, ◌-◌, ◌<◌, List, get_or, drop, length, refl, sym, subst, arith}
use Rattle.time_expansion.proofs.Cells.{sizes}
use Rattle.residual_net.specs.declared.legs.Leg.{Leg}
use Rattle.residual_net.specs.declared.place.PathStep.{PathStep}
use Rattle.residual_net.specs.Legs.{steps_of_legs}
use Rattle.residual_net.specs.Route.{IsOrigin}
use Rattle.residual_net.specs.declared.end.End.TheVariants.{Pair}
use Rattle.residual_net.specs.Site.{IsOpenEnd}
use Rattle.terminal_augment.specs.Hints.{IsStep}
use Rattle.terminal_augment.proofs.HintLemmas.{IsOver, IsTail, all_carried, begins_before, blank, leg_over, legs_back, legs_whole, marked_on_then, tail_open}
use Rattle.terminal_augment.proofs.hint.carried.Goals as goal

pub begins-requires-clause-open : goal.begins-requires-clause-open
begins-requires-clause-open c = tail_open c.loop-left.invariant.tail

pub over_waits-requires-clause-inside : goal.over_waits-requires-clause-inside
over_waits-requires-clause-inside c = subst (IsOpenEnd c.args.net.now.site) c.in-Pair.is c.in-Some.ensures.step.inside

pub overflow_add-moment : goal.overflow_add-moment
overflow_add-moment c = grind (arith, sizes)

pub loop-left-preserved : goal.loop-left-preserved
loop-left-preserved c =
    let w = c.args.net.now in
    let k = c.args.k in
    let m = c.loop-left.marks in
    let v = c.is_new.new.marks in
    let turns = c.turn_back-turns.result in
    let y = c.in-Some-over_waits.checked in
    let legs = c.args.legs.now in
    let old = c.loop-left.invariant in
    let some = c.loop-left-test.true in
    let back = c.in-Some-over_waits.ensures in
    let at = c.loop-left.left - 1 in
    let g : Leg = get_or legs at blank in
    let rest = steps_of_legs w.site (drop c.loop-left.left legs) in
    let step : IsStep w g.step (Pair c.in-Pair.node c.in-Pair.moment) c.loop-left.end = subst (λ e. IsStep w g.step e c.loop-left.end) c.in-Pair.is c.in-Some.ensures.step in
    let lt : at < length legs = omega (arith, some, old.fits) in
    let one = leg_over turns m v g old.tail step back
    (omega (arith, c.min-people.ensures, c.in-Some.ensures.room, old.tail.some, c.in-Some.ensures.step.room)) (omega (arith, c.min-people.ensures))
    (omega (arith, c.min-people.ensures, c.in-Some.ensures.room))
    (λ h. begins_before c.in-Pair.node c.in-Pair.moment c.requires.net.site step (c.turn_back-turns.ensures h at blank lt))
    (λ h. c.if-not-is_new.ensures.over refl h) in
    let path = steps_of_legs w.site (drop at legs) in
    let whole : IsTail w k (IsOver turns v (Pair y.spot.node y.spot.moment)) (Pair y.spot.node y.spot.moment) y.people path =
    subst (λ (z : List PathStep). IsTail w k (IsOver turns v (Pair y.spot.node y.spot.moment)) (Pair y.spot.node y.spot.moment) y.people z)
    (sym (legs_back w.site legs c.loop-left.left blank some old.fits)) one in
    record {
      fits = omega (arith, old.fits);
      tail = subst (λ (n : ℕ). IsTail w k (IsOver turns v (Pair n y.spot.moment)) (Pair n y.spot.moment) y.people path) back.node whole;
      marks = marked_on_then old.marks c.is_new.ensures.marks;
    }

pub returns-then-left-eq0-clause-path : goal.returns-then-left-eq0-clause-path
returns-then-left-eq0-clause-path c some =
    let w = c.args.net.now in
    let k = c.args.k in
    let old = c.loop-left.invariant in
    let step = c.in-Some.ensures.step in
    let origin : IsOrigin k c.in-Some.before.start = subst (IsOrigin k) (sym c.in-Source.is) tt in
    let whole = legs_whole w.site k c.args.legs.now c.loop-left.left blank c.loop-left-test.true old.fits c.if-left-eq0.true
    (subst (IsOrigin k) (sym step.start) origin) in
    all_carried c.min-people.result (steps_of_legs w.site c.args.legs.now) old.tail step origin (omega (arith, c.min-people.ensures))
    (omega (arith, c.min-people.ensures, c.in-Some.ensures.room)) whole

pub returns-then-k-moment-clause-path : goal.returns-then-k-moment-clause-path
returns-then-k-moment-clause-path c some =
    let w = c.args.net.now in
    let k = c.args.k in
    let old = c.loop-left.invariant in
    let step = c.in-Some.ensures.step in
    let origin : IsOrigin k c.in-Some.before.start = subst (IsOrigin k) (sym c.in-Door.is) c.if-k-moment.true in
    let whole = legs_whole w.site k c.args.legs.now c.loop-left.left blank c.loop-left-test.true old.fits c.if-left-eq0-2.true
    (subst (IsOrigin k) (sym step.start) origin) in
    all_carried c.min-people.result (steps_of_legs w.site c.args.legs.now) old.tail step origin (omega (arith, c.min-people.ensures))
    (omega (arith, c.min-people.ensures, c.in-Some.ensures.room)) whole
