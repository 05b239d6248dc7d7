-- Everybody who ever arrives has arrived by a moment exactly where the last move arrives by then.
use Rattle.std.proofs.Common.{◌≡◌, ℕ, ◌+◌, ◌<◌, ◌≤◌, cond, refl, sym, ◌∙◌, arith, inl, inr, ◌⊎◌}
use Rattle.std.proofs.lemmas.Bool.{cases_lt, le-leb}
use Rattle.std.proofs.lemmas.Bool.Decides.{nat_tests}
use Rattle.evac_law.proofs.SumLemmas.{cond_nothing}
use Rattle.residual_net.specs.declared.place.Place.{Place}
use Rattle.residual_net.specs.declared.end.End.{End}
use Rattle.residual_net.specs.declared.end.End.TheVariants.{Door}
use Rattle.residual_net.specs.Site.{IsPlace, at, door_by, head_of, is_door}
use Rattle.residual_net.specs.Network.{Network, IsNet, arrived_by, flow_at, flow_into}
use Rattle.residual_net.specs.OfModel.{last_move, plan_of}
use Rattle.residual_net.proofs.Last.{arrival_moves, moves_by_last}
use Rattle.residual_net.proofs.Places.{sum_places-add, sum_places-le, sum_places-same}
use Rattle.residual_net.proofs.Quiet.{onward, part_into}

-- no moment has more arrivals than a later one
pub arrived_rises : (w : Network) (j k : ℕ) → j ≤ k → arrived_by w j ≤ arrived_by w k
unfolding flow_into
arrived_rises w j k l = sum_places-le w.site _ _ (λ p i. at_end (head_of w.site p) (flow_at w p))
  where
    at_end : (e : End) (f : ℕ) → cond (door_by j e) f 0 ≤ cond (door_by k e) f 0
    at_end (Door d) f = grind (arith, nat_tests)
    at_end _ f = omega arith

-- whoever arrives between two moments is counted at the later one alone
between : (w : Network) (k j h : ℕ) → k < j → j ≤ h → arrived_by w k + flow_into w (at (Door j)) ≤ arrived_by w h
unfolding flow_into
between w k j h l r =
    let both = sum_places-add w.site (λ p. cond (door_by k (head_of w.site p)) (flow_at w p) 0) (λ p. cond (at (Door j) (head_of w.site p)) (flow_at w p) 0) in
    let le = sum_places-le w.site (λ p. cond (door_by k (head_of w.site p)) (flow_at w p) 0 + cond (at (Door j) (head_of w.site p)) (flow_at w p) 0)
    (λ p. cond (door_by h (head_of w.site p)) (flow_at w p) 0) (λ p i. at_end (head_of w.site p) (flow_at w p)) in
    omega (arith, both, le)
  where
    at_end : (e : End) (f : ℕ) → cond (door_by k e) f 0 + cond (at (Door j) e) f 0 ≤ cond (door_by h e) f 0
    at_end (Door d) f = grind (arith, nat_tests)
    at_end _ f = omega arith

-- who ever arrives has arrived by a moment that no arrival is later than
arrived_upto : (w : Network) → IsNet w → (k : ℕ) → ((j : ℕ) → k < j → j ≤ w.site.shape.horizon → flow_into w (at (Door j)) ≡ 0)
    → arrived_by w k ≡ flow_into w is_door
unfolding flow_into
arrived_upto w net k none = sum_places-same w.site _ _ (λ p i. at_place p i (cases_lt 0 (flow_at w p)))
  where
    at_place : (p : Place) → IsPlace w.site p → (0 < flow_at w p) ⊎ (flow_at w p ≤ 0)
        → cond (door_by k (head_of w.site p)) (flow_at w p) 0 ≡ cond (is_door (head_of w.site p)) (flow_at w p) 0
    at_place p i (inr gone) = let zero : flow_at w p ≡ 0 = omega (arith, gone) in rw zero (cond_nothing _ ∙ sym (cond_nothing _))
    at_place p i (inl some) = elim (onward w net p i some) [
      | inl d ↦ elim (cases_lt k d.0) [
        | inl late ↦ absurd (omega (arith, part_into w p i (Door d.0) d.1, some, none d.0 late d.2))
        | inr early ↦ rw (d.1, le-leb d.0 k early) refl
      ]
      | inr d ↦ rw d.2 refl
    ]

-- by the horizon all have arrived who ever do
pub all_arrive : (w : Network) → IsNet w → arrived_by w w.site.shape.horizon ≡ flow_into w is_door
all_arrive w net = arrived_upto w net w.site.shape.horizon (λ j l h. absurd (omega (arith, l, h)))

pub arrived_by_last : (w : Network) → IsNet w → (k : ℕ) → last_move w.site (plan_of w) ≤ k → arrived_by w k ≡ arrived_by w w.site.shape.horizon
arrived_by_last w net k l = arrived_upto w net k (λ j h _. arrival_moves w net j (omega (arith, l, h))) ∙ sym (all_arrive w net)

pub last_by_arrived : (w : Network) → IsNet w → (k : ℕ) → arrived_by w k ≡ arrived_by w w.site.shape.horizon → last_move w.site (plan_of w) ≤ k
last_by_arrived w net k e =
    moves_by_last w net k (λ j l h. omega (arith, between w k j w.site.shape.horizon l h, e))

-- the last move of a net is within its horizon
pub last_fits : (w : Network) → IsNet w → last_move w.site (plan_of w) ≤ w.site.shape.horizon
last_fits w net = last_by_arrived w net w.site.shape.horizon refl
