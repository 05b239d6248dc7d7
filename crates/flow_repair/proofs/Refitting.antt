-- Limits set and people taken off, one after another.
use Rattle.std.proofs.Common.{◌≡◌, ℕ, ◌+◌, ◌-◌, ◌<◌, ◌≤◌, Bool, true, false, cond, ◌||◌, leb, List, get_or, min, ap, sym, ◌∙◌, arith, inl, inr, ◌⊎◌, subst}
use Rattle.std.specs.List.{All, Any}
use Rattle.std.proofs.lemmas.Bool.{cases_Bool}
use Rattle.evac_law.specs.declared.model.Model.{Model}
use Rattle.evac_law.specs.LabelTable.{LabelTable}
use Rattle.residual_net.specs.declared.place.Place.{Place}
use Rattle.residual_net.specs.declared.place.PathStep.{PathStep}
use Rattle.residual_net.specs.Site.{Site, IsPlace, is_source, same_place, sum_places}
use Rattle.residual_net.specs.Network.{Network, IsNet, flow_at, flow_out, limit_at}
use Rattle.residual_net.specs.Change.{IsCancelled, IsLimitSet}
use Rattle.residual_net.specs.OfModel.{model_limit}
use Rattle.residual_net.proofs.Effects.{cancel_lowers, fewer_sent}
use Rattle.residual_net.proofs.Kept.{into_same, out_same}
use Rattle.evac_law.proofs.SumLemmas.{cond_le}
use Rattle.residual_net.proofs.Places.{place-same, same-place, sum_places-add, sum_places-le, sum_places-pick, sum_places-same}
use Rattle.flow_repair.specs.declared.reshaped.Reshaped.{Reshaped}
use Rattle.flow_repair.specs.Opened.{IsLeastOpened, IsOpened, head_number}
use Rattle.flow_repair.specs.Refit.{IsCancellable, IsRefitted, IsStepPerPerson, overrun}
use Rattle.residual_net.proofs.Steps.{added_some}
use Rattle.flow_repair.proofs.Cancelling.{falls, less_over, on_path}
use Rattle.flow_repair.proofs.Numbers.{least_of}

-- ---- what is above the limits of a model

over_at : (m : Model) (w v : Network) (p : Place) (x : ℕ) → IsPlace w.site p → ((q : Place) → IsPlace w.site q → flow_at v q ≤ flow_at w q)
    → (flow_at v p - model_limit m p) + x ≤ flow_at w p - model_limit m p
    → (q : Place) → IsPlace w.site q → (flow_at v q - model_limit m q) + cond (same_place p q) x 0 ≤ flow_at w q - model_limit m q
over_at m w v p x i flows at_p q j = by (cases_Bool (same_place p q))
  where
    by : (same_place p q ≡ true) ⊎ (same_place p q ≡ false) → (flow_at v q - model_limit m q) + cond (same_place p q) x 0 ≤ flow_at w q - model_limit m q
    by (inl e) = rw e (subst (λ z. (flow_at v z - model_limit m z) + x ≤ flow_at w z - model_limit m z) (same-place p q e) at_p)
    by (inr e) = rw e (omega (arith, flows q j))

over_falls : (m : Model) (w v : Network) (p : Place) (x : ℕ) → v.site ≡ w.site → IsPlace w.site p
    → ((q : Place) → IsPlace w.site q → flow_at v q ≤ flow_at w q)
    → (flow_at v p - model_limit m p) + x ≤ flow_at w p - model_limit m p → x + overrun m v ≤ overrun m w
unfolding overrun
over_falls m w v p x site i flows at_p =
    let same = ap (λ s. sum_places s (λ q. flow_at v q - model_limit m q)) site in
    let le = sum_places-le w.site (λ q. (flow_at v q - model_limit m q) + cond (same_place p q) x 0) (λ q. flow_at w q - model_limit m q)
    (over_at m w v p x i flows at_p) in
    let add = sum_places-add w.site (λ q. flow_at v q - model_limit m q) (λ q. cond (same_place p q) x 0) in
    let one : sum_places w.site (λ q. cond (same_place p q) x 0) ≡ x = sum_places-pick w.site p i (λ _. true) x in
    omega (arith, same, le, add, one)

over_same : (m : Model) (w v : Network) → v.site ≡ w.site → ((q : Place) → IsPlace w.site q → flow_at v q ≡ flow_at w q) → overrun m v ≡ overrun m w
unfolding overrun
over_same m w v e h = grind (arith, sum_places-same)

-- ---- one cancel

pub one_cancelled : {m : Model} (l : LabelTable) {w v : Network} {p : Place} {path : List PathStep} {x : ℕ} (before after : Reshaped)
    → IsCancelled w v p path x → IsPlace w.site p → limit_at w p ≡ model_limit m p → after.cancelled ≡ before.cancelled + x
    → after.least_label ≤ before.least_label
    → All (λ r. after.least_label ≤ head_number l v.site r.place) path
    → (after.least_label ≡ before.least_label) ⊎ Any (λ r. after.least_label ≡ head_number l v.site r.place) path
    → IsRefitted m l w v (λ _. false) before after
one_cancelled {m} l {w} {v} {p} {path} {x} before after c i limit sum most all one = record {
  site = c.taken.site;
  saved = c.taken.saved;
  limits = c.taken.limits;
  flows = falls w v p path x c;
  more = omega (arith, sum);
  sent = omega (arith, sum, fewer_sent w v p path x c);
  bounded =
      let at_p : (flow_at v p - model_limit m p) + x ≤ flow_at w p - model_limit m p =
      omega (arith, less_over w v p path x c, c.taken.limits p i, limit) in
      omega (arith, sum, over_falls m w v p x c.taken.site i (falls w v p path x c) at_p);
  arrivals = λ k. omega (arith, sum, cancel_lowers w v p path x c.arrives.0 c c.arrives.1 k, cond_le (leb c.arrives.0 k) x);
  idle = λ e. absurd (omega (arith, e, sum, c.some));
  least = record {
    most = most;
    places = λ q j o. elim o [
      | inl rose ↦ absurd (omega (arith, rose, c.taken.limits q j))
      | inr fell ↦
          let on = added_some path x q (omega (arith, fell, c.taken.flows q j)) in
          let same : (get_or path on.0 on.1).place ≡ q = ap (λ (r : PathStep). r.place) on.3 ∙ on.4 in
          let there : after.least_label ≤ head_number l v.site q = subst (λ z. after.least_label ≤ head_number l v.site z) same (all on.0 on.1 on.2) in
          subst (λ (s : Site). after.least_label ≤ head_number l s q) c.taken.site there
    ];
    one = elim one [
      | inl e ↦ inl e
      | inr a ↦
          let place = c.arrives.1.places a.0 a.1 a.2 in
          let fell = on_path w v p path x c a.0 a.1 a.2 in
          let same : (get_or path a.0 a.1).place ≡ a.1.place = ap (λ (r : PathStep). r.place) a.3 in
          let at : IsPlace w.site a.1.place = subst (λ z. IsPlace w.site z) same place in
          let less : flow_at v a.1.place + x ≤ flow_at w a.1.place = subst (λ z. flow_at v z + x ≤ flow_at w z) same fell in
          inr (a.1.place, at, inr (omega (arith, less, c.some)), subst (λ (s : Site). after.least_label ≡ head_number l s a.1.place) c.taken.site a.4)
    ];
  };
}

-- ---- one after another

pub least_none : (l : LabelTable) (w : Network) (first : ℕ) → IsLeastOpened l w w first first
least_none l w first = grind arith

-- what rises or falls over two changes does so over the one or the other
apart : (a b c x y z : ℕ) → (a < c) ⊎ (z < x) → ((a < b) ⊎ (y < x)) ⊎ ((b < c) ⊎ (z < y))
apart a b c x y z o = grind arith

-- what two changes open together is what the one or the other opens, where flows only fall and a limit that rose stays
pub least_then : {l : LabelTable} {w v u : Network} {a b c : ℕ} → v.site ≡ w.site
    → ((p : Place) → IsPlace w.site p → flow_at v p ≤ flow_at w p) → ((p : Place) → IsPlace w.site p → flow_at u p ≤ flow_at v p)
    → ((p : Place) → IsPlace w.site p → limit_at w p < limit_at v p → limit_at w p < limit_at u p)
    → ((p : Place) → IsPlace w.site p → limit_at v p < limit_at u p → limit_at w p < limit_at u p)
    → IsLeastOpened l w v a b → IsLeastOpened l v u b c → IsLeastOpened l w u a c
least_then {l} {w} {v} {u} {c} site falls_v falls_u stays late h g = record {
  most = omega (arith, h.most, g.most);
  places = λ p i o. split p i (apart (limit_at w p) (limit_at v p) (limit_at u p) (flow_at w p) (flow_at v p) (flow_at u p) o);
  one = elim g.one [
    | inl e ↦ elim h.one [
      | inl f ↦ inl (e ∙ f)
      | inr f ↦ inr (f.0, f.1, first f.0 f.1 f.2, e ∙ f.3)
    ]
    | inr e ↦
        let at : IsPlace w.site e.0 = subst (λ (z : Site). IsPlace z e.0) site e.1 in
        inr (e.0, at, second e.0 at e.2, subst (λ (z : Site). c ≡ head_number l z e.0) site e.3)
  ];
}
  where
    split : (p : Place) → IsPlace w.site p → IsOpened w v p ⊎ IsOpened v u p → c ≤ head_number l w.site p
    split p i (inl o) = omega (arith, h.places p i o, g.most)
    split p i (inr o) = subst (λ (z : Site). c ≤ head_number l z p) site (g.places p (subst (λ (z : Site). IsPlace z p) (sym site) i) o)

    first : (p : Place) → IsPlace w.site p → IsOpened w v p → IsOpened w u p
    first p i o = grind (arith, stays p i, falls_u p i)

    second : (p : Place) → IsPlace w.site p → IsOpened v u p → IsOpened w u p
    second p i o = grind (arith, late p i, falls_v p i)

pub steps_then : {a b c : ℕ} {r s t : Reshaped} → IsStepPerPerson a b r s → IsStepPerPerson b c s t → IsStepPerPerson a c r t
steps_then h g = record { counted = omega (arith, h.counted, g.counted); ticked = omega (arith, h.ticked, g.ticked) }

-- while the counts add up, more people can be taken off
pub still_cancellable : {w : Network} (v : Network) {l : LabelTable} {x : ℕ} (y : ℕ) {r : Reshaped} (s : Reshaped) → v.site ≡ w.site
    → flow_out v is_source + s.cancelled ≡ flow_out w is_source + r.cancelled → y ≡ x → IsNet v → IsCancellable w l x r → IsCancellable v l y s
still_cancellable v {l} y s site sent same net h = grind arith

-- a number that is set where the one or the other test passes
set_twice : (b c d : Bool) (x old mid new : ℕ) → mid ≡ cond b x old → new ≡ cond c x mid → d ≡ (c || b) → new ≡ cond d x old
set_twice b c d x o m n e f g = grind arith

-- what was opened stays so, and no more is opened than one by one
rose_stays : (b c : Bool) (x old mid new : ℕ) → mid ≡ cond b x old → new ≡ cond c x mid → old < mid → old < new
rose_stays b c x o m n e f l = grind arith

rose_late : (b c : Bool) (x old mid new : ℕ) → mid ≡ cond b x old → new ≡ cond c x mid → mid < new → old < new
rose_late b c x o m n e f l = grind arith

pub refitted_then : {m : Model} {l : LabelTable} {w v u : Network} {b c : Place → Bool} (d : Place → Bool) {r s t : Reshaped} → IsRefitted m l w v b r s
    → IsRefitted m l v u c s t → ((p : Place) → IsPlace w.site p → d p ≡ (c p || b p)) → IsRefitted m l w u d r t
refitted_then {m} {w} {v} {u} {b} {c} d h g or = record {
  site = g.site ∙ h.site;
  saved = g.saved ∙ h.saved;
  limits = λ p i. set_twice (b p) (c p) (d p) (model_limit m p) (limit_at w p) (limit_at v p) (limit_at u p) (h.limits p i) (g.limits p (mid p i)) (or p i);
  flows = λ p i. omega (arith, h.flows p i, g.flows p (mid p i));
  more = omega (arith, h.more, g.more);
  sent = omega (arith, h.sent, g.sent);
  bounded = omega (arith, h.bounded, g.bounded);
  arrivals = λ k. omega (arith, h.arrivals k, g.arrivals k);
  idle = λ e p i. g.idle (omega (arith, e, h.more, g.more)) p (mid p i) ∙ h.idle (omega (arith, e, h.more, g.more)) p i;
  least = least_then h.site h.flows (λ p i. g.flows p (mid p i))
      (λ p i. rose_stays (b p) (c p) (model_limit m p) (limit_at w p) (limit_at v p) (limit_at u p) (h.limits p i) (g.limits p (mid p i)))
      (λ p i. rose_late (b p) (c p) (model_limit m p) (limit_at w p) (limit_at v p) (limit_at u p) (h.limits p i) (g.limits p (mid p i))) h.least g.least;
}
  where
    mid : (p : Place) → IsPlace w.site p → IsPlace v.site p
    mid p i = subst (λ (z : Site). IsPlace z p) (sym h.site) i

-- ---- one limit set

swap_limit : (m : Model) (w : Network) (p q : Place) → cond (same_place p q) (model_limit m p) (limit_at w q) ≡ cond (same_place p q) (model_limit m q) (limit_at w q)
swap_limit m w p q = grind (arith, cases_Bool, same-place)

pub set_refitted : (m : Model) {l : LabelTable} {w v : Network} {p : Place} (before after : Reshaped) → IsLimitSet w v p (model_limit m p)
    → after.cancelled ≡ before.cancelled → IsLeastOpened l w v before.least_label after.least_label → IsRefitted m l w v (same_place p) before after
set_refitted m {w} {v} {p} before after set same least = grind (arith, swap_limit, out_same, over_same, into_same)

-- only the place itself is opened, where its limit rises
opened_one : (m : Model) {w v : Network} {p : Place} (q : Place) → IsLimitSet w v p (model_limit m p) → IsPlace w.site q → IsOpened w v q
    → (p ≡ q) × (limit_at w q < model_limit m p)
opened_one m q set i (inr fell) = absurd (omega (arith, fell, set.flows q i))
opened_one m {w} {v} {p} q set i (inl rose) = grind (arith, cases_Bool, same-place)

pub least_raised : (m : Model) (l : LabelTable) {w v : Network} {p : Place} (first x least : ℕ) → IsLimitSet w v p (model_limit m p) → IsPlace w.site p
    → limit_at w p < model_limit m p → x ≡ head_number l w.site p → least ≡ min first x → IsLeastOpened l w v first least
least_raised m l {w} {v} {p} first x least set i rose e f = grind (arith, least_of, first, opened_one, place-same)

pub least_lowered : (m : Model) (l : LabelTable) {w v : Network} {p : Place} (first : ℕ) → IsLimitSet w v p (model_limit m p)
    → model_limit m p ≤ limit_at w p → IsLeastOpened l w v first first
least_lowered m l {w} first set low = grind (arith, opened_one)
