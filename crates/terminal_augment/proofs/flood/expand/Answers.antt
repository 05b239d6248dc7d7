use Rattle.std.proofs.Common.{None, Option, Some, MatchOption, arith, true}
use Rattle.residual_net.specs.declared.place.PathStep.{PathStep}
use Rattle.residual_net.specs.declared.place.Place.TheVariants.{Hold}
use Rattle.terminal_augment.proofs.FloodLemmas.{done_later, grown_then, has_later, way_later}
use Rattle.terminal_augment.proofs.WayLemmas.{expanded_by}
use Rattle.terminal_augment.proofs.flood.expand.Goals as goal

none_weaker : (o : Option PathStep) (P Q : Type 0) (R : PathStep → Type 0) → (P → Q) → MatchOption o P R → MatchOption o Q R
none_weaker None P Q R f h = f h
none_weaker (Some y) P Q R f h = h

pub meet_before-requires-clause-met : goal.meet_before-requires-clause-met
meet_before-requires-clause-met c = has_later c.args.spot.node c.args.spot.moment c.expand_in.ensures.grown c.requires.met

pub meet_after-requires-clause-met : goal.meet_after-requires-clause-met
meet_after-requires-clause-met c = grind (arith, grown_then, has_later)

pub expand_out-requires-clause-met : goal.expand_out-requires-clause-met
expand_out-requires-clause-met c = grind (arith, grown_then, has_later)

pub returns-clause-grown : goal.returns-clause-grown
returns-clause-grown c =
    let both = grown_then c.expand_in.ensures.grown c.meet_before.ensures.grown in
    let three = grown_then both c.meet_after.ensures.grown in
    grown_then three c.expand_out.ensures.grown

pub returns-clause-found : goal.returns-clause-found
returns-clause-found c =
    let w = c.args.net.now in
    let k = c.args.k in
    let z = c.expand_out.new.labels in
    let from_e = c.expand_out.ensures.grown in
    let from_d = grown_then c.meet_after.ensures.grown from_e in
    let from_b = grown_then c.meet_before.ensures.grown from_d in
    none_weaker c.expand_out.result _ _ _
    (λ leaving.
    expanded_by w z k c.requires.inside (λ room. absurd (omega (arith, room, c.unsent.ensures, c.if-unsent-gt0.false)))
    (λ i h. way_later w _ from_b (c.expand_in.ensures.done i h)) (way_later w _ from_d c.meet_before.ensures.done) leaving
    (done_later w (record { place = Hold c.args.spot.node c.args.spot.moment; back = true }) from_e c.meet_after.ensures.done))
    c.expand_out.ensures.found
