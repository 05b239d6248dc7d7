-- The whole repair: the limits of the edited model, what it takes off, and the closed sets that stand.
use Rattle.std.proofs.Common.{◌≡◌, ℕ, ◌+◌, ◌-◌, ◌<◌, ◌≤◌, Bool, true, false, cond, eqb, ltb, length, ap, sym, ◌∙◌, arith, inl, inr, ◌⊎◌, subst}
use Rattle.std.proofs.lemmas.Bool.{cases_Bool, cases_lt, leb-true, or_right}
use Rattle.std.proofs.lemmas.List.{length-map}
use Rattle.evac_law.specs.declared.edit.Edit.{Edit}
use Rattle.evac_law.specs.declared.model.Model.{Model}
use Rattle.evac_law.specs.Building.{IsValid, arrival, capacity, entry, is_exit_at, rate}
use Rattle.evac_law.specs.Edits.{IsEditOf, edited}
use Rattle.evac_law.specs.LabelTable.{LabelTable}
use Rattle.evac_law.specs.Plans.{above, held, moved, violation}
use Rattle.evac_law.specs.Stands.{Fits}
use Rattle.evac_law.proofs.EditLemmas.{is_edited}
use Rattle.evac_law.proofs.SumLemmas.{sum2-le}
use Rattle.residual_net.specs.declared.place.Place.{Place}
use Rattle.residual_net.specs.declared.place.Place.TheVariants.{Arc, Hold, Supply}
use Rattle.residual_net.specs.Closed.{reached}
use Rattle.residual_net.specs.Network.{Network, IsAllSent, IsNet, IsWithinLimits, flow_at, limit_at, residual_room}
use Rattle.residual_net.specs.NetLaws.{labelled}
use Rattle.residual_net.specs.OfModel.{IsNetOf, model_limit, plan_of, site_of, stand_of}
use Rattle.residual_net.specs.declared.end.End.{End}
use Rattle.residual_net.specs.declared.end.End.TheVariants.{Source, Pair, Door}
use Rattle.residual_net.specs.Site.{Site, IsPlace, arc_count, exit_at, is_barred, start_of, stop_of, sum_places}
use Rattle.residual_net.proofs.Begin.{joined}
use Rattle.residual_net.proofs.Fit.{fits}
use Rattle.residual_net.proofs.Held.{arcs_same, arrival_is, horizon_same, nodes_same}
use Rattle.residual_net.proofs.Law.{moved_is}
use Rattle.flow_repair.specs.declared.reshaped.Reshaped.{Reshaped}
use Rattle.flow_repair.specs.Opened.{IsClosedBelow, IsLeastOpened, IsOpened, end_number}
use Rattle.flow_repair.specs.Refit.{IsBetween, IsEditOfNet, IsRefitted, overrun}
use Rattle.flow_repair.specs.Touched.{touches}
use Rattle.flow_repair.proofs.Edited.{site_edited, still_edit, untouched, valid_after}

-- ---- closed sets

-- what is reached by a moment has a number of at most it
reached_number : (l : LabelTable) (i : ℕ) (e : End) → reached (labelled l i) i e ≡ true → end_number l e ≤ i
reached_number l i Source h = absurd (cc)
reached_number l i (Pair n t) h = leb-true _ i h
reached_number l i (Door t) h = leb-true t i h

-- where flows only fall, the sets closed before stay closed at each moment below the number of each opened place
pub closed_stays : {l : LabelTable} {w v : Network} {first least : ℕ} → v.site ≡ w.site → ((p : Place) → IsPlace w.site p → flow_at v p ≤ flow_at w p)
    → IsLeastOpened l w v first least → IsClosedBelow w l first → IsClosedBelow v l least
closed_stays {l} {w} {v} site falls opened closed i q r place room stop =
    ap (λ (s : Site). reached (labelled l i) i (start_of s r)) site ∙ closed i (omega (arith, q, opened.most)) r at (still (cases_Bool r.back)) there
  where
    at : IsPlace w.site r.place
    at = subst (λ (s : Site). IsPlace s r.place) site place

    there : reached (labelled l i) i (stop_of w.site r) ≡ true
    there = subst (λ (s : Site). reached (labelled l i) i (stop_of s r) ≡ true) site stop

    shut_off : r.back ≡ false → IsOpened w v r.place → ⊥
    shut_off on o = grind (arith, at, there, reached_number)

    still : (r.back ≡ true) ⊎ (r.back ≡ false) → 0 < residual_room w r
    still (inl b) = grind (arith, at)
    still (inr b) = grind (arith, at, cases_lt, shut_off)

-- ---- the limits of the edited model

pub now_of : {m : Model} {l : LabelTable} {e : Edit} {w v : Network} {r s : Reshaped} → IsEditOfNet m e w → IsRefitted m l w v (touches w.site e) r s → IsNetOf m v
now_of {m} {e} {w} h g =
    let same : edited h.before e ≡ m = is_edited h.before m e h.inverse h.edited in
    let site : w.site ≡ site_of m = h.of.site ∙ sym (site_edited h.before e) ∙ ap site_of same in
    record {
      site = g.site ∙ site;
      limits = λ p i.
          let at : IsPlace w.site p = subst (λ (z : Site). IsPlace z p) g.site i in
          g.limits p at ∙ elim (cases_Bool (touches w.site e p)) [
            | inl t ↦ ap (λ b. cond b (model_limit m p) (limit_at w p)) t
            | inr t ↦
                let old : limit_at w p ≡ model_limit h.before p = h.of.limits p at in
                let kept : model_limit (edited h.before e) p ≡ model_limit h.before p =
                untouched h.before e p (subst (λ (z : Site). IsPlace z p) h.of.site at) (subst (λ (z : Site). touches z e p ≡ false) h.of.site t) in
                ap (λ b. cond b (model_limit m p) (limit_at w p)) t ∙ old ∙ sym kept ∙ ap (λ z. model_limit z p) same
          ];
    }

pub valid_now : {m : Model} {e : Edit} {w : Network} → IsEditOfNet m e w → IsValid m
valid_now {m} {e} h = valid_after m e h.inverse h.valid h.in_range h.edited

pub between_now : {m : Model} {e : Edit} {w : Network} → IsEditOfNet m e w → IsBetween m w
between_now {m} {e} h = grind (arith, site_edited, is_edited)

pub edit_now : {m : Model} {e : Edit} {w : Network} → IsEditOfNet m e w → IsEditOf m e
edit_now {m} {e} h = subst (λ z. IsEditOf z e) (is_edited h.before m e h.inverse h.edited) (still_edit h.before e h.in_range)

-- ---- what is taken off is at most what the edit breaks

none_late : (b : Bool) (f x y : ℕ) → (b ≡ true → f ≡ 0) → f - cond b 0 x ≤ f - x
none_late b f x y h = grind arith

module _ (m n : Model) (w : Network) (valid : IsValid m) (net : IsNet w) (of : IsNetOf m w) (within : IsWithinLimits w) (all : IsAllSent w) (site : w.site ≡ site_of n) where
  horizon_now : w.site.shape.horizon ≡ n.horizon
  horizon_now = ap (λ (s : Site). s.shape.horizon) site

  arc_over : (a t : ℕ) → a < arc_count w.site → t < w.site.shape.horizon + 1 → flow_at w (Arc a t) - model_limit n (Arc a t) ≤ moved (plan_of w) a t - rate n a t
  arc_over a t i j =
      let place : IsPlace w.site (Arc a t) = (i, omega (arith, j)) in
      let in_n : a < length n.arcs = omega (arith, i, ap arc_count site, length-map n.arcs joined) in
      let late : ltb n.horizon (arrival n a t) ≡ is_barred w.site (Arc a t) =
      ap (λ z. ltb n.horizon z) (sym (arrival_is n a t in_n)) ∙ ap (λ (s : Site). is_barred s (Arc a t)) (sym site) in
      let none = none_late (ltb n.horizon (arrival n a t)) (flow_at w (Arc a t)) (rate n a t) 0 (λ e. (net.barred (Arc a t) place (sym late ∙ e)).0) in
      omega (arith, none, moved_is m w valid net of within a t (omega (arith, arcs_same m w net of valid, i)) (omega (arith, horizon_same m w net of valid, j)))

  hold_over : (k t : ℕ) → k < w.site.shape.nodes → t < w.site.shape.horizon + 1
      → flow_at w (Hold k t) - model_limit n (Hold k t) ≤ cond (is_exit_at m k) 0 (above (held m (plan_of w) k t) (capacity n k))
  hold_over k t i j =
      let place : IsPlace w.site (Hold k t) = (i, omega (arith, j)) in
      let fit = fits m w valid net of within all in
      let last : eqb t n.horizon ≡ true → flow_at w (Hold k t) ≡ 0 =
      λ e. (net.barred (Hold k t) place (or_right (exit_at w.site k) (eqb t w.site.shape.horizon) (ap (λ z. eqb t z) horizon_now ∙ e))).0 in
      let none = none_late (eqb t n.horizon) (flow_at w (Hold k t)) (capacity n k) 0 last in
      by (cases_Bool (is_exit_at m k)) fit none
    where
      by : (is_exit_at m k ≡ true) ⊎ (is_exit_at m k ≡ false) → Fits m (stand_of w)
          → flow_at w (Hold k t) - model_limit n (Hold k t) ≤ flow_at w (Hold k t) - capacity n k
          → flow_at w (Hold k t) - model_limit n (Hold k t) ≤ cond (is_exit_at m k) 0 (above (held m (plan_of w) k t) (capacity n k))
      by (inl e) fit none =
          let nobody : flow_at w (Hold k t) ≡ 0 = fit.exits_hold_none k t i (omega (arith, j)) e in
          omega (arith, nobody)
      by (inr e) fit none =
          let here : above (held m (plan_of w) k t) (capacity n k) ≡ flow_at w (Hold k t) - capacity n k =
          ap (λ z. above z (capacity n k)) (sym (fit.inside k t i (omega (arith, j)) e)) in
          rw (e, here) none

  entry_over : (k t : ℕ) → k < w.site.shape.nodes → t < w.site.shape.horizon + 1
      → flow_at w (Supply k t) - model_limit n (Supply k t) ≤ entry m k t - entry n k t
  entry_over k t i j = grind arith

  pub few_over : overrun n w ≤ violation m (plan_of w) n
  unfolding overrun violation sum_places
  few_over =
      let k = w.site.shape.horizon + 1 in
      let arcs = sum2-le (arc_count w.site) k (λ a t. flow_at w (Arc a t) - model_limit n (Arc a t)) (λ a t. moved (plan_of w) a t - rate n a t) arc_over in
      let holds = sum2-le w.site.shape.nodes k (λ i t. flow_at w (Hold i t) - model_limit n (Hold i t))
      (λ i t. cond (is_exit_at m i) 0 (above (held m (plan_of w) i t) (capacity n i))) hold_over in
      let entries = sum2-le w.site.shape.nodes k (λ i t. flow_at w (Supply i t) - model_limit n (Supply i t)) (λ i t. entry m i t - entry n i t) entry_over in
      let same : k ≡ m.horizon + 1 = ap (λ z. z + 1) (horizon_same m w net of valid) in
      rw (← arcs_same m w net of valid, ← nodes_same m w net of valid, ← same) (omega (arith, arcs, holds, entries))
