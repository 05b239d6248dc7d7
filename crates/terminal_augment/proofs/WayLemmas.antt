-- The steps that lead into a pair, and when all of them are done.
use Rattle.std.proofs.Common.{◌≡◌, ℕ, ◌+◌, ◌-◌, ◌<◌, Bool, true, false, cond, eqb, leb, get_or, MatchOption, subst, arith}
use Rattle.std.proofs.lemmas.Bool.{cases_Bool, ne_eqb, leb-true, le-leb}
use Rattle.time_expansion.specs.Expansion.{arcs_from, arcs_to, from_at, to_at}
use Rattle.time_expansion.proofs.Lists as lists
use Rattle.evac_law.specs.LabelTable.{LabelTable}
use Rattle.residual_net.specs.declared.place.Place.{Place}
use Rattle.residual_net.specs.declared.place.Place.TheVariants.{Arc, Hold, Supply}
use Rattle.residual_net.specs.declared.end.End.{End}
use Rattle.residual_net.specs.declared.end.End.TheVariants.{Pair, Door}
use Rattle.residual_net.specs.Network.{Network}
use Rattle.residual_net.specs.Site.{Site, IsOpenPair, IsPlace, arrival_at, exit_at, stop_of}
use Rattle.terminal_augment.specs.Floods.{IsDone, IsExpanded, IsWayDone}
use Rattle.terminal_augment.specs.Ways.{end_at, in_count, out_count, way_before, way_in}

-- ---- the way over an arc leads where the arc does

pub in_stops : (s : Site) (a t : ℕ) (P : End → Type 0) → P (end_at s (to_at s.shape a) t) → MatchOption (way_in s a t) (Unit {0}) (λ y. P (stop_of s y))
in_stops s a t P h = grind (arith, cases_Bool, leb-true)

-- ---- all steps into a pair

-- the step over a place is done
abbrev pub Done : Network → LabelTable → ℕ → Place → Bool → Type 0
Done w l k p b = IsDone w l k (record { place = p; back = b })

pub expanded_by : (w : Network) (l : LabelTable) (k : ℕ) {n t : ℕ} → IsOpenPair w.site n t → IsDone w l k (record { place = Supply n t; back = false })
    → ((i : ℕ) → i < in_count w.site n → IsWayDone w l k (way_in w.site (get_or (arcs_to w.site.shape n) i 0) t)) → IsWayDone w l k (way_before n t)
    → ((i : ℕ) → i < out_count w.site n → IsDone w l k (record { place = Arc (get_or (arcs_from w.site.shape n) i 0) t; back = true }))
    → IsDone w l k (record { place = Hold n t; back = true }) → IsExpanded w l k n t
expanded_by w l k {n} {t} inside supply entering before leaving after y place stop = by y.place y.back place stop
  where
    by : (p : Place) (b : Bool) → IsPlace w.site p → stop_of w.site (record { place = p; back = b }) ≡ Pair n t → Done w l k p b
    by (Supply i u) true at e = absurd (cc)
    by (Supply i u) false at e =
        let node : n ≡ i = cc in
        let moment : t ≡ u = cc in
        subst (λ z. Done w l k (Supply z u) false) node (subst (λ z. Done w l k (Supply n z) false) moment supply)
    by (Hold i u) true at e =
        let node : n ≡ i = cc in
        let moment : t ≡ u = cc in
        subst (λ z. Done w l k (Hold z u) true) node (subst (λ z. Done w l k (Hold n z) true) moment after)
    by (Hold i u) false at e =
        let node : n ≡ i = cc in
        let moment : u + 1 ≡ t = cc in
        let some : eqb t 0 ≡ false = ne_eqb _ _ (omega arith) in
        let last : t - 1 ≡ u = omega arith in
        let here : Done w l k (Hold n (t - 1)) false = rw some at before in
        subst (λ z. Done w l k (Hold z u) false) node (subst (λ z. Done w l k (Hold n z) false) last here)
    by (Arc a u) true at e =
        let node : from_at w.site.shape a ≡ n = cc in
        let moment : t ≡ u = cc in
        let listed = lists.out_listed w.site.shape n a at.0 node in
        subst (λ z. Done w l k (Arc a z) true) moment (subst (λ z. Done w l k (Arc z t) true) listed.2 (leaving listed.0 listed.1))
    by (Arc a u) false at e = by_exit (exit_at w.site (to_at w.site.shape a)) e
      where
        by_exit : (x : Bool) → cond x (Door (arrival_at w.site a u)) (Pair (to_at w.site.shape a) (arrival_at w.site a u)) ≡ Pair n t → Done w l k (Arc a u) false
        by_exit true h = absurd (cc)
        by_exit false h =
            let node : to_at w.site.shape a ≡ n = cc in
            let moment : arrival_at w.site a u ≡ t = cc in
            let listed = lists.into_listed w.site.shape n a at.0 node in
            let way : IsWayDone w l k (way_in w.site a t) = subst (λ z. IsWayDone w l k (way_in w.site z t)) listed.2 (entering listed.0 listed.1) in
            let early : leb (arrival_at w.site a 0) t ≡ true = le-leb _ _ (omega arith) in
            let when : t - arrival_at w.site a 0 ≡ u = omega arith in
            subst (λ z. Done w l k (Arc a z) false) when (rw early at way)
