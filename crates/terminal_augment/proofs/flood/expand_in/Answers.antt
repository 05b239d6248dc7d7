use Rattle.std.proofs.Common.{◌≡◌, ℕ, List, Option, MatchOption, get_or, length, ap, sym, subst, arith, inl, inr, ◌∙◌}
use Rattle.std.proofs.lemmas.Bool.{cases_lt}
use Rattle.time_expansion.specs.Expansion.{Expansion, arcs_to, to_at}
use Rattle.time_expansion.proofs.Lists as lists
use Rattle.residual_net.specs.Site.{stop_of}
use Rattle.residual_net.specs.declared.place.PathStep.{PathStep}
use Rattle.terminal_augment.specs.Chains.{IsAmong, spots}
use Rattle.terminal_augment.specs.Floods.{IsWayDone}
use Rattle.terminal_augment.specs.Ways.{end_at, way_in}
use Rattle.terminal_augment.proofs.FloodLemmas.{among_later, grown_then, way_later}
use Rattle.terminal_augment.proofs.WayLemmas.{in_stops}
use Rattle.terminal_augment.proofs.flood.expand_in.Goals as goal

pub meet_in-requires-clause-arc : goal.meet_in-requires-clause-arc
meet_in-requires-clause-arc c =
    let same = c.entering-entering.ensures ∙ ap (λ (x : Expansion). arcs_to x c.args.spot.node) c.shape.ensures.shape in
    let here = lists.arc_into c.args.net.now.site.shape c.args.spot.node c.loop-i.i 0 (omega (arith, c.loop-i-test.true, ap length same)) in
    record { arc = rw same here.0; moment = c.requires.moment }

pub meet_in-requires-clause-stop : goal.meet_in-requires-clause-stop
meet_in-requires-clause-stop c =
    let w = c.args.net.now in
    let k = c.args.k in
    let n = c.args.spot.node in
    let t = c.args.spot.moment in
    let ps = spots c.loop-i.queue.list in
    let same = c.entering-entering.ensures ∙ ap (λ (x : Expansion). arcs_to x n) c.shape.ensures.shape in
    let here = lists.arc_into w.site.shape n c.loop-i.i 0 (omega (arith, c.loop-i-test.true, ap length same)) in
    let at_node : IsAmong k ps (end_at w.site n t) = among_later (end_at w.site n t) c.loop-i.invariant.grown c.requires.stop in
    let a = get_or (arcs_to w.site.shape n) c.loop-i.i 0 in
    let there : IsAmong k ps (end_at w.site (to_at w.site.shape a) t) = subst (λ z. IsAmong k ps (end_at w.site z t)) (sym here.1) at_node in
    subst (λ (arcs : List ℕ). MatchOption (way_in w.site (get_or arcs c.loop-i.i 0) t) (Unit {0}) (λ y. IsAmong k ps (stop_of w.site y))) (sym same)
    (in_stops w.site a t (IsAmong k ps) there)

pub loop-i-preserved : goal.loop-i-preserved
loop-i-preserved c =
    let w = c.args.net.now in
    let k = c.args.k in
    let m = c.meet_in.new.labels in
    let old = c.loop-i.invariant in
    let same = c.entering-entering.ensures ∙ ap (λ (v : Expansion). arcs_to v c.args.spot.node) c.shape.ensures.shape in
    let way : (i : ℕ) → Option PathStep = λ i. way_in w.site (get_or (arcs_to w.site.shape c.args.spot.node) i 0) c.args.spot.moment in
    let mine : IsWayDone w m k (way c.loop-i.i) =
    subst (λ (arcs : List ℕ). IsWayDone w m k (way_in w.site (get_or arcs c.loop-i.i 0) c.args.spot.moment)) same c.meet_in.ensures.done in
    record {
      flooding = c.meet_in.ensures.flooding;
      grown = grown_then old.grown c.meet_in.ensures.grown;
      done = λ j q. elim (cases_lt j c.loop-i.i) [
        | inl before ↦ way_later w (way j) c.meet_in.ensures.grown (old.done j before)
        | inr after ↦ (let last : c.loop-i.i ≡ j = omega (arith, q, after) in subst (λ (i : ℕ). IsWayDone w m k (way i)) last mine)
      ];
    }
