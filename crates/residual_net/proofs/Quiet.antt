-- How flow goes on through the moments, and that a closed set of an arrival moment has no flow past it.
use Rattle.std.proofs.Common.{◌≡◌, ℕ, zero, suc, ◌+◌, ◌<◌, ◌≤◌, Bool, true, false, cond, ◌||◌, eqb, refl, ap, ap₂, sym, ◌∙◌, arith, inl, inr, ◌⊎◌}
use Rattle.std.proofs.lemmas.Bool.{cases_Bool, cases_lt, eq-eqb, ltb-false, leb-true, eqb-true}
use Rattle.std.proofs.lemmas.Bool.Decides.{nat_tests}
use Rattle.time_expansion.specs.Expansion.{to_at}
use Rattle.residual_net.specs.declared.place.Place.{Place}
use Rattle.residual_net.specs.declared.place.Place.TheVariants.{Arc, Hold, Supply}
use Rattle.residual_net.specs.declared.end.End.{End}
use Rattle.residual_net.specs.declared.end.End.TheVariants.{Source, Pair, Door}
use Rattle.residual_net.specs.Site.{Site, IsSite, IsPlace, at, is_barred, head_of, tail_of, exit_at, arrival_at, same_place, sum_places}
use Rattle.residual_net.specs.Network.{Network, IsNet, flow_at, limit_at, flow_into, flow_out}
use Rattle.residual_net.specs.Change.{rank}
use Rattle.residual_net.specs.Closed.{IsClosed, reached}
use Rattle.evac_law.proofs.SumLemmas.{pair_same, same_pair}
use Rattle.residual_net.proofs.Places.{sum_places-same, sum_places-none, sum_places-le, sum_places-pick, same-place}

-- what a closed set says of one place
module _ (w : Network) (x : ℕ → ℕ → Bool) (k : ℕ) (closed : IsClosed w x k) where
  -- into it from outside there is no room
  pub entering_full : (p : Place) → IsPlace w.site p → reached x k (head_of w.site p) ≡ true → reached x k (tail_of w.site p) ≡ false
      → limit_at w p ≤ flow_at w p
  entering_full p i h t = elim (cases_lt (flow_at w p) (limit_at w p)) [
    | inl more ↦ absurd (cc (closed (record { place = p; back = false }) i (omega (arith, more)) h, t))
    | inr full ↦ full
  ]

  -- out of it to the outside there is no flow
  pub leaving_none : (p : Place) → IsPlace w.site p → reached x k (tail_of w.site p) ≡ true → reached x k (head_of w.site p) ≡ false
      → flow_at w p ≡ 0
  leaving_none p i t h = elim (cases_lt 0 (flow_at w p)) [
    | inl more ↦ absurd (cc (closed (record { place = p; back = true }) i more t, h))
    | inr none ↦ omega (arith, none)
  ]

pub at-same : (e f : End) → at e f ≡ true → f ≡ e
at-same Source Source h = refl
at-same (Pair n t) (Pair m s) h = let both = same_pair n m t s h in ap₂ Pair (sym both.0) (sym both.1)
at-same (Door t) (Door j) h = ap Door (sym (eqb-true t j h))
at-same _ _ h = absurd (cc)

pub at-self : (e : End) → at e e ≡ true
at-self Source = refl
at-self (Pair n t) = pair_same n n t t refl refl
at-self (Door t) = eq-eqb t t refl

-- one place is part of what leads to where it leads, and of what leads from where it does
part_of : (w : Network) (to : Place → End) (p : Place) → IsPlace w.site p → (e : End) → to p ≡ e
    → flow_at w p ≤ sum_places w.site (λ q. cond (at e (to q)) (flow_at w q) 0)
part_of w to p i e h =
    let one = sum_places-pick w.site p i (λ _. true) (flow_at w p) in
    let le = sum_places-le w.site (λ q. cond (same_place p q) (flow_at w p) 0) (λ q. cond (at e (to q)) (flow_at w q) 0)
    (λ q j. at_place q (cases_Bool (same_place p q))) in
    omega (arith, one, le)
  where
    at_place : (q : Place) → (same_place p q ≡ true) ⊎ (same_place p q ≡ false)
        → cond (same_place p q) (flow_at w p) 0 ≤ cond (at e (to q)) (flow_at w q) 0
    at_place q (inl s) =
        let same = same-place p q s in
        let test : at e (to q) ≡ true = ap (λ z. at e (to z)) (sym same) ∙ ap (at e) h ∙ at-self e in
        let flow : flow_at w p ≡ flow_at w q = ap (flow_at w) same in
        rw (s, test) (omega (arith, flow))
    at_place q (inr s) = rw s (omega arith)

-- where each place that leads there has no flow, none leads there
none_of_all : (w : Network) (to : Place → End) (e : End) → ((p : Place) → IsPlace w.site p → to p ≡ e → flow_at w p ≡ 0)
    → sum_places w.site (λ q. cond (at e (to q)) (flow_at w q) 0) ≡ 0
none_of_all w to e h = sum_places-same w.site _ (λ _. 0) (λ p i. at_place p i (cases_Bool (at e (to p)))) ∙ sum_places-none w.site
  where
    at_place : (p : Place) → IsPlace w.site p → (at e (to p) ≡ true) ⊎ (at e (to p) ≡ false) → cond (at e (to p)) (flow_at w p) 0 ≡ 0
    at_place p i (inl s) = rw s (h p i (at-same e (to p) s))
    at_place p i (inr s) = rw s refl

pub part_into : (w : Network) (p : Place) → IsPlace w.site p → (e : End) → head_of w.site p ≡ e → flow_at w p ≤ flow_into w (at e)
unfolding flow_into
part_into w p i e h = part_of w (head_of w.site) p i e h

pub part_from : (w : Network) (p : Place) → IsPlace w.site p → (e : End) → tail_of w.site p ≡ e → flow_at w p ≤ flow_out w (at e)
unfolding flow_out
part_from w p i e h = part_of w (tail_of w.site) p i e h

pub none_into : (w : Network) (e : End) → ((p : Place) → IsPlace w.site p → head_of w.site p ≡ e → flow_at w p ≡ 0) → flow_into w (at e) ≡ 0
unfolding flow_into
none_into w e h = none_of_all w (head_of w.site) e h

pub none_from : (w : Network) (e : End) → ((p : Place) → IsPlace w.site p → tail_of w.site p ≡ e → flow_at w p ≡ 0) → flow_out w (at e) ≡ 0
unfolding flow_out
none_from w e h = none_of_all w (tail_of w.site) e h

-- ---- flow goes on in time

pub arc_rank : (s : Site) (a t : ℕ) → rank (head_of s (Arc a t)) ≡ arrival_at s a t + 1
arc_rank s a t = by_exit (exit_at s (to_at s.shape a))
  where
    by_exit : (b : Bool) → rank (cond b (Door (arrival_at s a t)) (Pair (to_at s.shape a) (arrival_at s a t))) ≡ arrival_at s a t + 1
    by_exit true = refl
    by_exit false = refl

-- each place leads to something later
pub rank_up : (s : Site) → IsSite s → (p : Place) → IsPlace s p → rank (tail_of s p) < rank (head_of s p)
rank_up s h (Arc a t) i = omega (arith, arc_rank s a t, (h.times a 0 (omega (arith, i.0, h.travels))).0)
rank_up s h (Hold n t) i = omega arith
rank_up s h (Supply n t) i = omega arith

-- and where somebody can be there, to something within the horizon
pub rank_in : (s : Site) (p : Place) → IsPlace s p → is_barred s p ≡ false → rank (head_of s p) ≤ s.shape.horizon + 1
rank_in s (Arc a t) i b = omega (arith, arc_rank s a t, ltb-false _ _ b)
rank_in s (Hold n t) i b = not_last (exit_at s n) t s.shape.horizon i.1 b
  where
    not_last : (e : Bool) (t h : ℕ) → t ≤ h → (e || eqb t h) ≡ false → t + 1 + 1 ≤ h + 1
    not_last e t h l b = grind (arith, nat_tests)
rank_in s (Supply n t) i b = omega (arith, i.1)

pub open_flow : (w : Network) → IsNet w → (p : Place) → IsPlace w.site p → 0 < flow_at w p → is_barred w.site p ≡ false
open_flow w net p i some = grind (arith, cases_Bool)

pub in_time : (w : Network) → IsNet w → (p : Place) → IsPlace w.site p → 0 < flow_at w p → rank (head_of w.site p) ≤ w.site.shape.horizon + 1
in_time w net p i some = rank_in w.site p i (open_flow w net p i some)

-- where a place with flow leads: to an arrival within the horizon or to a pair
pub onward : (w : Network) → IsNet w → (p : Place) → IsPlace w.site p → 0 < flow_at w p
    → ((j : ℕ) × (head_of w.site p ≡ Door j) × (j ≤ w.site.shape.horizon)) ⊎ ((m : ℕ) × (u : ℕ) × (head_of w.site p ≡ Pair m u))
onward w net p i some = by_end (head_of w.site p) refl
  where
    by_end : (e : End) → head_of w.site p ≡ e
        → ((j : ℕ) × (head_of w.site p ≡ Door j) × (j ≤ w.site.shape.horizon)) ⊎ ((m : ℕ) × (u : ℕ) × (head_of w.site p ≡ Pair m u))
    by_end Source h = absurd (omega (arith, rank_up w.site net.site p i, ap rank h))
    by_end (Pair m u) h = inr (m, u, h)
    by_end (Door j) h = inl (j, h, omega (arith, in_time w net p i some, ap rank h))

-- no flow goes through the pairs of a kind that flow leaves for pairs of that kind alone
module _ (w : Network) (net : IsNet w) (kind : ℕ → ℕ → Type 0)
    (stays : (p : Place) → IsPlace w.site p → 0 < flow_at w p → (n t : ℕ) → tail_of w.site p ≡ Pair n t → kind n t
    → (m : ℕ) × (u : ℕ) × (head_of w.site p ≡ Pair m u) × kind m u) where
  none_out : (n t : ℕ) → kind n t → ((m u : ℕ) → t < u → u ≤ w.site.shape.horizon → kind m u → flow_into w (at (Pair m u)) ≡ 0)
      → flow_into w (at (Pair n t)) ≡ 0
  none_out n t here later = omega (arith, net.conserved.pairs n t, none_from w (Pair n t) none)
    where
      none : (p : Place) → IsPlace w.site p → tail_of w.site p ≡ Pair n t → flow_at w p ≡ 0
      none p i e = elim (cases_lt 0 (flow_at w p)) [
        | inl some ↦
            let next = stays p i some n t e here in
            let up : t < next.1 = omega (arith, rank_up w.site net.site p i, ap rank e, ap rank next.2) in
            let in_horizon : next.1 ≤ w.site.shape.horizon = omega (arith, in_time w net p i some, ap rank next.2) in
            omega (arith, part_into w p i (Pair next.0 next.1) next.2, later next.0 next.1 up in_horizon next.3)
        | inr gone ↦ omega (arith, gone)
      ]

  drained_by : (left n t : ℕ) → w.site.shape.horizon ≤ t + left → kind n t → flow_into w (at (Pair n t)) ≡ 0
  drained_by zero n t near here = none_out n t here (λ m u l h b. absurd (omega (arith, near, l, h)))
  drained_by (suc left) n t near here = none_out n t here (λ m u l h b. drained_by left m u (omega (arith, near, l)) b)

  pub drained : (n t : ℕ) → kind n t → flow_into w (at (Pair n t)) ≡ 0
  drained n t here = drained_by w.site.shape.horizon n t (omega arith) here

module _ (w : Network) (x : ℕ → ℕ → Bool) (k : ℕ) (net : IsNet w) (closed : IsClosed w x k) where
  -- flow from a pair of the set past moment k goes to another one
  stays : (p : Place) → IsPlace w.site p → 0 < flow_at w p → (n t : ℕ) → tail_of w.site p ≡ Pair n t → (k < t) × (x n t ≡ true)
      → (m : ℕ) × (u : ℕ) × (head_of w.site p ≡ Pair m u) × ((k < u) × (x m u ≡ true))
  stays p i some n t e here =
      let inside : reached x k (head_of w.site p) ≡ true = closed (record { place = p; back = true }) i some (ap (reached x k) e ∙ here.1) in
      let up = rank_up w.site net.site p i in
      elim (onward w net p i some) [
        | inl d ↦ absurd (omega (arith, here.0, up, ap rank e, ap rank d.1, leb-true d.0 k (sym (ap (reached x k) d.1) ∙ inside)))
        | inr d ↦ (d.0, d.1, d.2, (omega (arith, here.0, up, ap rank e, ap rank d.2), sym (ap (reached x k) d.2) ∙ inside))
      ]

  -- nothing leaves the set past moment k
  pub none_past : (p : Place) → IsPlace w.site p → reached x k (tail_of w.site p) ≡ true
      → (n t : ℕ) → head_of w.site p ≡ Pair n t → k < t → flow_at w p ≡ 0
  none_past p i inside n t h later = elim (cases_lt 0 (flow_at w p)) [
    | inl some ↦
        let member : x n t ≡ true = sym (ap (reached x k) h) ∙ closed (record { place = p; back = true }) i some inside in
        omega (arith, part_into w p i (Pair n t) h, drained w net (λ n t. (k < t) × (x n t ≡ true)) stays n t (later, member))
    | inr none ↦ omega (arith, none)
  ]
