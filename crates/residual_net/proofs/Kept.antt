-- What a net keeps beside its flow, where only limits or the saved copy change.
use Rattle.std.proofs.Common.{◌≡◌, ℕ, ◌+◌, ◌-◌, ◌≤◌, true, false, cond, inl, inr, ◌⊎◌, List, length, take, drop, ◌++◌, refl, ap, sym, ◌∙◌, arith, subst}
use Rattle.std.proofs.lemmas.List.{take_at}
use Rattle.std.proofs.lemmas.Bool.{cases_Bool}
use Rattle.residual_net.specs.declared.place.Place.{Place}
use Rattle.residual_net.specs.declared.place.Place.TheVariants.{Supply}
use Rattle.residual_net.specs.declared.place.Cell.{Cell}
use Rattle.residual_net.specs.Limits.{supply_limit}
use Rattle.residual_net.specs.Site.{Site, IsPlace, End_test, at, is_barred, is_door, is_source, same_place, tail_of}
use Rattle.residual_net.specs.declared.end.End.TheVariants.{Pair, Door}
use Rattle.residual_net.specs.Network.{Network, IsGrid, IsKept, IsStored, flow_at, flow_into, flow_out, limit_at, saved_of, supply_limits, with_saved}
use Rattle.residual_net.specs.Change.{IsLimitSet, supply_limits_with}
use Rattle.residual_net.proofs.Steps.{same_supplies}
use Rattle.residual_net.proofs.Places.{same-place, sum_places-pick, sum_places-same, sum_places-split}

-- ---- the saved copy

pub stored_again : (w : Network) (saved : List Cell) (arrivals : List ℕ) → IsStored w arrivals → IsStored (record w { saved = saved }) arrivals
unfolding flow_at limit_at flow_into flow_out supply_limits
stored_again w saved arrivals h = grind arith

pub kept_saved : (w : Network) (arrivals : List ℕ) (supplies : ℕ) → IsStored w arrivals → supplies ≡ supply_limits w
    → IsKept (with_saved w) arrivals arrivals supplies supplies
unfolding limit_at supply_limits
kept_saved w arrivals supplies h e = record {
  stored = stored_again w w.cells arrivals h;
  saved = stored_again w w.cells arrivals h;
  counted = e;
  saved_counted = e;
}

pub kept_restored : (w : Network) (arrivals saved : List ℕ) (supplies saved_supplies : ℕ) → IsKept w arrivals saved supplies saved_supplies
    → IsKept (saved_of w) saved saved saved_supplies saved_supplies
kept_restored w arrivals saved supplies saved_supplies h = record { stored = h.saved; saved = h.saved; counted = h.saved_counted; saved_counted = h.saved_counted }

pub refilled : {X : Type 0} (items xs ys : List X) (len : ℕ) → len ≡ length items → xs ≡ ys → length ys ≡ length items → take len (xs ++ drop (length xs) items) ≡ ys
refilled items xs ys len e f g = take_at xs (drop (length xs) items) len (omega (arith, ap length f)) ∙ f

pub same_saved : (w v : Network) → v.site ≡ w.site → v.saved ≡ w.saved → saved_of v ≡ saved_of w
same_saved w v e f = grind arith

-- what a net keeps, and its arrivals, as a caller sees the net
pub kept_of : {w v : Network} {arrivals saved : List ℕ} {supplies saved_supplies : ℕ} → w ≡ v → IsKept w arrivals saved supplies saved_supplies
    → IsKept v arrivals saved supplies saved_supplies
kept_of {w} {v} {arrivals} {saved} {supplies} {saved_supplies} e h = subst (λ (z : Network). IsKept z arrivals saved supplies saved_supplies) e h

pub stored_of : {w v : Network} {arrivals saved seen : List ℕ} {supplies saved_supplies : ℕ} → w ≡ v → seen ≡ arrivals
    → IsKept w arrivals saved supplies saved_supplies → IsStored v seen
stored_of {w} {v} {arrivals} e same h = subst (λ (z : List ℕ). IsStored v z) (sym same) (kept_of e h).stored

pub kept_changed : {w v : Network} {arrivals saved more : List ℕ} {supplies saved_supplies count : ℕ} → IsKept w arrivals saved supplies saved_supplies
    → v.site ≡ w.site → v.saved ≡ w.saved → IsStored v more → count ≡ supply_limits v → IsKept v more saved count saved_supplies
kept_changed {w} {v} {arrivals} {saved} h e f g counted = grind (arith, same_saved)

-- flow moves, and the limits stay
pub kept_moved : {w v : Network} {arrivals saved now : List ℕ} {supplies saved_supplies len : ℕ} → IsKept w arrivals saved supplies saved_supplies → v.site ≡ w.site
    → v.saved ≡ w.saved → ((p : Place) → IsPlace w.site p → limit_at v p ≡ limit_at w p) → IsStored v now → len ≡ length arrivals
    → IsKept v (take len (now ++ drop (length now) arrivals)) saved supplies saved_supplies
kept_moved {w} {v} {arrivals} {saved} {now} {supplies} {saved_supplies} {len} h e f limits stored full =
    let same : length now ≡ length arrivals = omega (arith, stored.moments, h.stored.moments, ap (λ (s : Site). s.shape.horizon) e) in
    subst (λ (z : List ℕ). IsKept v z saved supplies saved_supplies) (sym (refilled arrivals now now len full refl same))
    (kept_changed h e f stored (h.counted ∙ sym (same_supplies w v e limits)))

-- ---- flows that are the same

pub into_same : (w v : Network) → v.site ≡ w.site → ((q : Place) → IsPlace w.site q → flow_at v q ≡ flow_at w q) → (t : End_test) → flow_into v t ≡ flow_into w t
unfolding flow_into
into_same w v e h t = grind (arith, sum_places-same)

pub out_same : (w v : Network) → v.site ≡ w.site → ((q : Place) → IsPlace w.site q → flow_at v q ≡ flow_at w q) → (t : End_test) → flow_out v t ≡ flow_out w t
unfolding flow_out
out_same w v e h t = grind (arith, sum_places-same)

pub supplies_set : (w v : Network) (p : Place) (people : ℕ) → IsLimitSet w v p people → supply_limits v ≡ supply_limits_with w p people
unfolding supply_limits supply_limits_with
supplies_set w v p people h = grind (arith, sum_places-same)

-- a place that is no supply changes no limit of a supply
pub supplies_stay : (w : Network) (p : Place) (people : ℕ) → is_source (tail_of w.site p) ≡ false → supply_limits_with w p people ≡ supply_limits w
unfolding supply_limits supply_limits_with
supplies_stay w p people other =
    sum_places-same w.site _ _ (λ q i. at_place q (cases_Bool (same_place p q)))
  where
    at_place : (q : Place) → (same_place p q ≡ true) ⊎ (same_place p q ≡ false)
        → cond (is_source (tail_of w.site q)) (cond (same_place p q) people (limit_at w q)) 0 ≡ cond (is_source (tail_of w.site q)) (limit_at w q) 0
    at_place q (inl e) = rw (← same-place p q e, other) refl
    at_place q (inr e) = rw e refl

-- another limit of a supply comes in the place of the one that it had
pub supplies_moved : (w : Network) (n t people : ℕ) → IsPlace w.site (Supply n t)
    → supply_limits_with w (Supply n t) people + limit_at w (Supply n t) ≡ supply_limits w + people
unfolding supply_limits supply_limits_with
supplies_moved w n t people i =
    let q = Supply n t in
    let b = λ (p : Place). is_source (tail_of w.site p) in
    let set = λ (p : Place). cond (same_place q p) people (limit_at w p) in
    omega (
      arith,
      sum_places-split w.site b set (λ p. cond (same_place q p) (limit_at w q) 0),
      sum_places-split w.site b (λ p. limit_at w p) (λ p. cond (same_place q p) people 0),
      sum_places-pick w.site q i b (limit_at w q),
      sum_places-pick w.site q i b people,
      sum_places-same w.site _ _ (λ p _. ap (λ z. cond (b p) z 0) (at_place p (cases_Bool (same_place q p)))),
    )
  where
    at_place : (p : Place) → (same_place (Supply n t) p ≡ true) ⊎ (same_place (Supply n t) p ≡ false)
        → cond (same_place (Supply n t) p) people (limit_at w p) + cond (same_place (Supply n t) p) (limit_at w (Supply n t)) 0
        ≡ limit_at w p + cond (same_place (Supply n t) p) people 0
    at_place p (inl e) = rw e (let same = ap (limit_at w) (same-place (Supply n t) p e) in omega (arith, same))
    at_place p (inr e) = rw e refl

pub supplies_then : (w : Network) (people : ℕ) {p : Place} {n t supplies limit : ℕ} → p ≡ Supply n t → IsPlace w.site p → supplies ≡ supply_limits w → limit ≡ limit_at w p
    → (limit ≤ supplies) × (supplies - limit + people ≡ supply_limits_with w p people)
supplies_then w people {p} {n} {t} {supplies} {limit} is i e f =
    let place : IsPlace w.site (Supply n t) = subst (IsPlace w.site) is i in
    let here = f ∙ ap (limit_at w) is in
    let less : limit ≤ supplies = omega (arith, e, here, supplies_moved w n t 0 place) in
    let moved : supplies - limit + people ≡ supply_limits_with w (Supply n t) people = omega (arith, e, here, less, supplies_moved w n t people place) in
    (less, moved ∙ ap (λ z. supply_limits_with w z people) (sym is))

pub stored_limit : {w v : Network} {p : Place} {people : ℕ} {arrivals : List ℕ} → IsStored w arrivals → IsLimitSet w v p people → IsGrid v → IsPlace w.site p
    → (is_barred w.site p ≡ true → people ≡ 0) → supply_limits_with w p people ≤ supply_limit → IsStored v arrivals
stored_limit {w} {v} {p} {people} h a g place open_place few = record {
  net = record {
    site = g.site;
    full = g.full;
    conserved = record {
      pairs = λ n t. into_same w v a.site a.flows (at (Pair n t)) ∙ h.net.conserved.pairs n t
          ∙ sym (out_same w v a.site a.flows (at (Pair n t)));
      sent = into_same w v a.site a.flows is_door ∙ h.net.conserved.sent ∙ sym (out_same w v a.site a.flows is_source);
    };
    barred = λ q i b.
        let in_w : IsPlace w.site q = subst (λ (s : Site). IsPlace s q) a.site i in
        let shut : is_barred w.site q ≡ true = subst (λ (s : Site). is_barred s q ≡ true) a.site b in
        let was = h.net.barred q in_w shut in
        (a.flows q in_w ∙ was.0, a.limits q in_w ∙ none q in_w shut (cases_Bool (same_place p q)));
    supplies = omega (arith, supplies_set w v p people a, few);
    few_sent = omega (arith, out_same w v a.site a.flows is_source, h.net.few_sent);
  };
  moments = omega (arith, h.moments, ap (λ (s : Site). s.shape.horizon) a.site);
  totals = λ j l.
      h.totals j (omega (arith, l, ap (λ (s : Site). s.shape.horizon) a.site)) ∙ sym (into_same w v a.site a.flows (at (Door j)));
}
  where
    none : (q : Place) → IsPlace w.site q → is_barred w.site q ≡ true
        → (same_place p q ≡ true) ⊎ (same_place p q ≡ false)
        → cond (same_place p q) people (limit_at w q) ≡ 0
    none q i b (inl e) = rw e (open_place (subst (λ (z : Place). is_barred w.site z ≡ true) (sym (same-place p q e)) b))
    none q i b (inr e) = rw e (h.net.barred q i b).1
