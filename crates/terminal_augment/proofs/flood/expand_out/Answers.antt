use Rattle.std.proofs.Common.{◌≡◌, ℕ, List, length, get_or, true, ap, subst, sym, ◌∙◌, arith, inl, inr}
use Rattle.std.proofs.lemmas.Bool.{cases_lt}
use Rattle.time_expansion.specs.Expansion.{Expansion, arcs_from, from_at}
use Rattle.time_expansion.proofs.Lists as lists
use Rattle.residual_net.specs.declared.place.Place.TheVariants.{Arc}
use Rattle.terminal_augment.specs.Chains.{spots}
use Rattle.terminal_augment.specs.Floods.{IsDone}
use Rattle.terminal_augment.specs.Spots.{has}
use Rattle.terminal_augment.proofs.FloodLemmas.{done_later, grown_then, has_later}
use Rattle.terminal_augment.proofs.flood.expand_out.Goals as goal

pub meet_out-requires-clause-arc : goal.meet_out-requires-clause-arc
meet_out-requires-clause-arc c =
    let same = c.leaving-leaving.ensures ∙ ap (λ (x : Expansion). arcs_from x c.args.spot.node) c.shape.ensures.shape in
    let here = lists.arc_out c.args.net.now.site.shape c.args.spot.node c.loop-i.i 0 (omega (arith, c.loop-i-test.true, ap length same)) in
    record { arc = rw same here.0; moment = c.requires.inside.moment }

pub meet_out-requires-clause-stop : goal.meet_out-requires-clause-stop
meet_out-requires-clause-stop c =
    let w = c.args.net.now in
    let same = c.leaving-leaving.ensures ∙ ap (λ (x : Expansion). arcs_from x c.args.spot.node) c.shape.ensures.shape in
    let here = lists.arc_out w.site.shape c.args.spot.node c.loop-i.i 0 (omega (arith, c.loop-i-test.true, ap length same)) in
    let met = has_later c.args.spot.node c.args.spot.moment c.loop-i.invariant.grown c.requires.met in
    subst (λ (arcs : List ℕ). has (spots c.loop-i.queue.list) (from_at w.site.shape (get_or arcs c.loop-i.i 0)) c.args.spot.moment ≡ true) (sym same)
    (subst (λ (n : ℕ). has (spots c.loop-i.queue.list) n c.args.spot.moment ≡ true) (sym here.1) met)

pub returns-in-Some-clause-grown : goal.returns-in-Some-clause-grown
returns-in-Some-clause-grown c = grown_then c.loop-i.invariant.grown c.meet_out.ensures.grown

pub loop-i-preserved : goal.loop-i-preserved
loop-i-preserved c =
    let w = c.args.net.now in
    let m = c.meet_out.new.labels in
    let old = c.loop-i.invariant in
    let same = c.leaving-leaving.ensures ∙ ap (λ (v : Expansion). arcs_from v c.args.spot.node) c.shape.ensures.shape in
    let mine : IsDone w m c.args.k (record { place = Arc (get_or (arcs_from w.site.shape c.args.spot.node) c.loop-i.i 0) c.args.spot.moment; back = true }) =
    subst (λ (arcs : List ℕ). IsDone w m c.args.k (record { place = Arc (get_or arcs c.loop-i.i 0) c.args.spot.moment; back = true })) same
    c.in_default.ensures.found in
    record {
      flooding = c.meet_out.ensures.flooding;
      grown = grown_then old.grown c.meet_out.ensures.grown;
      done = λ j q. elim (cases_lt j c.loop-i.i) [
        | inl before ↦ done_later w (record { place = Arc (get_or (arcs_from w.site.shape c.args.spot.node) j 0) c.args.spot.moment; back = true }) c.meet_out.ensures.grown (old.done j before)
        | inr after ↦
            let last : c.loop-i.i ≡ j = omega (arith, q, after) in
            subst (λ (i : ℕ). IsDone w m c.args.k (record { place = Arc (get_or (arcs_from w.site.shape c.args.spot.node) i 0) c.args.spot.moment; back = true })) last mine
      ];
    }
