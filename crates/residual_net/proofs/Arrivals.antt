-- What a path says of the moments where it begins and ends, and the arrivals that are kept of each moment.
use Rattle.std.proofs.Common.{◌≡◌, ℕ, zero, suc, ◌+◌, ◌-◌, ◌<◌, ◌≤◌, Bool, true, false, cond, leb, List, length, get_or, refl, ap, sym, ◌∙◌, arith, subst, inl, inr, add-one}
use Rattle.std.specs.List.{sum_by}
use Rattle.std.proofs.lemmas.Bool.{cases_Bool, eq-eqb}
use Rattle.std.proofs.lemmas.Bool.Decides.{nat_tests}
use Rattle.evac_law.specs.Sums.{below}
use Rattle.evac_law.proofs.SumLemmas.{cond_le, sum_below-more, sum_below-none, sum_moments-suc, sum_moments-zero}
use Rattle.residual_net.specs.declared.place.Place.{Place}
use Rattle.residual_net.specs.declared.place.Place.TheVariants.{Arc}
use Rattle.residual_net.specs.declared.place.PathStep.{PathStep}
use Rattle.residual_net.specs.Limits.{supply_limit}
use Rattle.residual_net.specs.declared.end.End.{End}
use Rattle.residual_net.specs.declared.end.End.TheVariants.{Door}
use Rattle.residual_net.specs.Site.{Site, IsPlace, at, door_by, is_door, is_barred, head_of, tail_of, start_of, stop_of}
use Rattle.residual_net.specs.Network.{Network, IsNet, IsStored, flow_at, limit_at, flow_into, residual_room}
use Rattle.residual_net.specs.Legs.{IsUnderwayBetween}
use Rattle.residual_net.specs.Route.{IsUnderway}
use Rattle.residual_net.specs.Change.{IsFewerBy}
use Rattle.residual_net.proofs.Places.{sum_places-same, sum_places-add, sum_places-le}
use Rattle.residual_net.proofs.Push.{arrivals_moved}
use Rattle.residual_net.proofs.Quiet.{part_into, rank_in}
use Rattle.residual_net.proofs.Steps.{first_start, last_stop, path_some, net_pushed, few_arrive}

pub no_tail : (s : Site) (p : Place) (k : ℕ) → tail_of s p ≡ Door k → ⊥
no_tail s (Arc a t) k e = cc
no_tail s _ k e = cc

-- a step that stops at an arrival goes forwards
pub into_door : (s : Site) (r : PathStep) (k : ℕ) → stop_of s r ≡ Door k → (r.back ≡ false) × (head_of s r.place ≡ Door k)
into_door s r k e = grind (arith, cases_Bool, no_tail)

-- a step with room isn't barred
pub open_step : (w : Network) (r : PathStep) (x : ℕ) → IsNet w → IsPlace w.site r.place → 1 ≤ x → x ≤ residual_room w r → is_barred w.site r.place ≡ false
open_step w r x n i one room = elim (cases_Bool (is_barred w.site r.place)) [
  | inl b ↦
      let none = n.barred r.place i b in
      absurd (no_room r.back (flow_at w r.place) (limit_at w r.place) none.0 none.1 room)
  | inr b ↦ b
]
  where
    no_room : (b : Bool) (f l : ℕ) → f ≡ 0 → l ≡ 0 → x ≤ cond b f (l - f) → ⊥
    no_room true f l e g h = omega (arith, one)
    no_room false f l e g h = omega (arith, one)

-- a step that starts from an arrival goes backwards
from_door : (s : Site) (r : PathStep) (k : ℕ) → start_of s r ≡ Door k → (r.back ≡ true) × (head_of s r.place ≡ Door k)
from_door s r k e = grind (arith, cases_Bool, no_tail)

-- ---- an arrival at the end of a step

-- an arrival that is told belongs to a place, and counts the people of the place
pub told_door : (w : Network) (arrivals : List ℕ) → IsStored w arrivals → (r : PathStep) (x : ℕ) → IsPlace w.site r.place → 1 ≤ x → x ≤ residual_room w r
    → (j : ℕ) → head_of w.site r.place ≡ Door j → j < length arrivals
told_door w arrivals s r x i one room j h = grind (arith, rank_in, open_step)

pub told_people : (w : Network) (arrivals : List ℕ) → IsStored w arrivals → (p : Place) (x : ℕ) → IsPlace w.site p → x ≤ flow_at w p
    → (j : ℕ) → head_of w.site p ≡ Door j → j < length arrivals → x ≤ get_or arrivals j 0
told_people w arrivals s p x i few j h l = grind (arith, part_into)

-- the arrivals that are kept stay those of the flow
pub stored_counted : (w v : Network) (arrivals mid new : List ℕ) (from to : End) (x : ℕ) → IsStored w arrivals → IsNet v → v.site ≡ w.site
    → IsFewerBy mid arrivals from x → IsFewerBy mid new to x
    → ((j : ℕ) → flow_into v (at (Door j)) + cond (at (Door j) from) x 0 ≡ flow_into w (at (Door j)) + cond (at (Door j) to) x 0) → IsStored v new
stored_counted w v arrivals mid new from to x s net site a b moved = grind (arith, net, moved)

-- ---- the arrivals of a push

module _ {v : Network} {arrivals : List ℕ} {first last : PathStep} {x : ℕ} (one : 1 ≤ x) (h : IsUnderwayBetween v arrivals first last x)
    {from to : End} (a : from ≡ start_of v.site first) (b : to ≡ head_of v.site last.place) where
  abbrev u : IsUnderway v arrivals h.path x
  u = h.underway

  abbrev w : Network
  w = u.before

  abbrev last_number : ℕ
  last_number = length h.path - 1

  some : 0 < length h.path
  some = path_some w h.path x u.pushable

  first_is : start_of w.site first ≡ from
  first_is = sym (a ∙ ap (λ z. start_of z first) u.pushed.site)

  last_is : head_of w.site last.place ≡ to
  last_is = sym (b ∙ ap (λ z. head_of z last.place) u.pushed.site)

  from_is : from ≡ u.pushable.0
  from_is = grind (arith, first_is, first_start, some)

  to_is : to ≡ Door u.pushable.1
  to_is =
      let stops = last_stop w.site u.pushable.0 (Door u.pushable.1) h.path last u.pushable.2.leads some in
      sym last_is ∙ (into_door w.site last u.pushable.1 (ap (stop_of w.site) (sym (h.last_step last)) ∙ stops)).1

  moved : (j : ℕ) → flow_into v (at (Door j)) + cond (at (Door j) from) x 0 ≡ flow_into w (at (Door j)) + cond (at (Door j) to) x 0
  moved j = grind (arith, arrivals_moved, from_is, to_is)

  net : IsNet v
  net = net_pushed w v h.path x u.stored.net u.within u.pushable u.pushed u.grid

  pub can_lower : (j : ℕ) → from ≡ Door j → (j < length arrivals) × (x ≤ get_or arrivals j 0)
  can_lower j e = grind (arith, from_door, first_is, some, told_door, told_people)

  pub can_raise : {mid : List ℕ} → IsFewerBy mid arrivals from x → (j : ℕ) → to ≡ Door j → (j < length mid) × (get_or mid j 0 + x ≤ supply_limit)
  can_raise m j e =
      let place = subst (λ (y : PathStep). IsPlace w.site y.place) (h.last_step last) (u.pushable.2.places last_number last (omega (arith, some))) in
      let room = subst (λ (y : PathStep). x ≤ residual_room w y) (h.last_step last) (u.pushable.2.room last_number last (omega (arith, some))) in
      let inside = told_door w arrivals u.stored last x place one room j (last_is ∙ e) in
      let all = ap (λ z. cond (at (Door j) z) x 0) e ∙ ap (λ z. cond z x 0) (eq-eqb j j refl) in
      let total = u.stored.totals j (omega (arith, inside, u.stored.moments)) in
      (omega (arith, inside, m.length_same), omega (arith, m.each j, moved j, all, total, few_arrive v j net))

  pub stored_pushed : {mid new : List ℕ} → IsFewerBy mid arrivals from x → IsFewerBy mid new to x → IsStored v new
  stored_pushed {mid} {new} m n = stored_counted w v arrivals mid new from to x u.stored net u.pushed.site m n moved

-- ---- arrivals added up

-- those at each moment up to k are those by moment k
pub arrived_all : (w : Network) (k : ℕ) → sum_by (λ j. flow_into w (at (Door j))) (below (k + 1)) ≡ flow_into w (door_by k)
unfolding flow_into
arrived_all w zero = sum_moments-zero (λ j. flow_into w (at (Door j))) ∙ sum_places-same w.site _ _ (λ p i. same (head_of w.site p) (flow_at w p))
  where
    same : (e : End) (f : ℕ) → cond (at (Door 0) e) f 0 ≡ cond (door_by 0 e) f 0
    same (Door t) f = grind (arith, nat_tests)
    same _ f = refl
arrived_all w (suc k) =
    sum_moments-suc (λ j. flow_into w (at (Door j))) k
    ∙ ap (λ z. z + flow_into w (at (Door (suc k)))) (arrived_all w k)
    ∙ sym (sum_places-same w.site _ _ (λ p i. more (head_of w.site p) (flow_at w p))
    ∙ sum_places-add w.site (λ p. cond (door_by k (head_of w.site p)) (flow_at w p) 0) (λ p. cond (at (Door (suc k)) (head_of w.site p)) (flow_at w p) 0))
  where
    more : (e : End) (f : ℕ) → cond (door_by (suc k) e) f 0 ≡ cond (door_by k e) f 0 + cond (at (Door (suc k)) e) f 0
    more (Door t) f = grind (arith, nat_tests)
    more _ f = refl

pub arrivals_fit : (w : Network) (n : ℕ) → IsNet w → sum_by (λ j. flow_into w (at (Door j))) (below n) ≤ supply_limit
unfolding flow_into
arrivals_fit w zero net = omega (arith, sum_below-none (λ j. flow_into w (at (Door j))))
arrivals_fit w (suc k) net =
    let less = sum_places-le w.site (λ p. cond (door_by k (head_of w.site p)) (flow_at w p) 0) (λ p. cond (is_door (head_of w.site p)) (flow_at w p) 0)
    (λ p i. le (head_of w.site p) (flow_at w p)) in
    omega (arith, ap (λ z. sum_by (λ j. flow_into w (at (Door j))) (below z)) (add-one k), arrived_all w k, less, net.conserved.sent, net.few_sent)
  where
    le : (e : End) (f : ℕ) → cond (door_by k e) f 0 ≤ cond (is_door e) f 0
    le (Door t) f = cond_le (leb t k) f
    le _ f = omega arith

-- one more moment's arrivals
pub arrived_more : (w : Network) (arrivals : List ℕ) (total i : ℕ) → IsStored w arrivals → i ≤ w.site.shape.horizon
    → total ≡ sum_by (λ j. flow_into w (at (Door j))) (below i)
    → (total + get_or arrivals i 0 ≤ supply_limit) × (total + get_or arrivals i 0 ≡ sum_by (λ j. flow_into w (at (Door j))) (below (i + 1)))
arrived_more w arrivals total i stored l e =
    let more = sum_below-more (λ j. flow_into w (at (Door j))) i in
    let here = stored.totals i l in
    (omega (arith, arrivals_fit w (i + 1) stored.net, more, here, e), omega (arith, more, here, e))
