use Rattle.std.proofs.Common.{arith, refl, subst}
use Rattle.residual_net.specs.declared.place.PathStep.{PathStep}
use Rattle.terminal_augment.specs.Floods.{IsDone}
use Rattle.terminal_augment.proofs.FloodLemmas.{before_later, grown_then}
use Rattle.terminal_augment.proofs.flood.meet_before.Goals as goal

pub meet-requires-clause-inside : goal.meet-requires-clause-inside
meet-requires-clause-inside c = grind arith

pub returns-then-not-meet-clause-done : goal.returns-then-not-meet-clause-done
returns-then-not-meet-clause-done c =
    let w = c.args.net.now in
    let old = c.loop-moment.invariant in
    before_later w c.args.spot.node c.args.spot.moment c.loop-moment.moment c.meet.ensures.grown c.loop-moment-test.true old.within old.done
    (subst (λ (y : PathStep). IsDone w c.meet.new.labels c.args.k y) c.forth-step.ensures c.meet.ensures.done)

pub loop-moment-preserved : goal.loop-moment-preserved
loop-moment-preserved c =
    let w = c.args.net.now in
    let old = c.loop-moment.invariant in
    let m = c.meet.new.labels in
    record {
      within = omega (arith, old.within);
      flooding = c.meet.ensures.flooding;
      met = c.if-not-meet.ensures.met refl;
      grown = grown_then old.grown c.meet.ensures.grown;
      done = λ _. before_later w c.args.spot.node c.args.spot.moment c.loop-moment.moment c.meet.ensures.grown c.loop-moment-test.true old.within old.done
          (subst (λ (z : PathStep). IsDone w m c.args.k z) c.forth-step.ensures c.meet.ensures.done);
    }

pub returns-then-not-meet-clause-grown : goal.returns-then-not-meet-clause-grown
returns-then-not-meet-clause-grown c = grown_then c.loop-moment.invariant.grown c.meet.ensures.grown
