-- The person-periods of a plan, arc by arc.
use Rattle.std.proofs.Common.{◌≡◌, ℕ, ◌+◌, ◌*◌, ◌<◌, Bool, true, false, cond, ◌&&◌, eqb, leb, ltb, List, length, refl, ap, sym, ◌∙◌, arith}
use Rattle.std.specs.List.{sum_by, All}
use Rattle.std.proofs.lemmas.Bool.Decides.{nat_tests}
use Rattle.evac_law.specs.declared.model.Model.{Model}
use Rattle.evac_law.specs.declared.plan.Move.{Move}
use Rattle.evac_law.specs.Building.{arc_at, arrival, head, is_exit_at}
use Rattle.evac_law.specs.Plans.{moved, person_periods}
use Rattle.evac_law.specs.Sums.{moments_to, places}
use Rattle.evac_law.proofs.SumLemmas.{gather, same_pair, sum2-same, sum_by-same, sum_by-times, times_cond}

-- the person-periods of an arc at a moment
abbrev pub part_at : Model → List Move → ℕ → ℕ → ℕ
part_at m p a t = cond (is_exit_at m (head m a) && leb (arrival m a t) m.horizon) (moved p a t * arrival m a t) 0

swap : (i j : ℕ) → i * j ≡ j * i
swap i j = grind arith

module _ (m : Model) (p : List Move) where
  weight : Move → ℕ
  weight v = v.people * arrival m v.arc v.moment

  same_weight : (x y s t d e w : ℕ) → (x ≡ y → d ≡ e) → cond (eqb x y && eqb s t) (w * (s + d)) 0 ≡ cond (eqb x y && eqb s t) ((t + e) * w) 0
  same_weight x y s t d e w h = split (eqb x y && eqb s t) refl
    where
      split : (b : Bool) → (eqb x y && eqb s t) ≡ b → cond b (w * (s + d)) 0 ≡ cond b ((t + e) * w) 0
      split true f = let same = same_pair x y s t f in ap (λ z. w * z) (omega (arith, same.1, h same.0)) ∙ swap w (t + e)
      split false f = refl

  inner : (a t : ℕ) → sum_by (λ (v : Move). cond (eqb v.arc a && eqb v.moment t) (weight v) 0) p ≡ moved p a t * arrival m a t
  unfolding moved weight
  inner a t =
      sum_by-same _ (λ (v : Move). arrival m a t * cond (eqb v.arc a && eqb v.moment t) v.people 0) p
      (λ v. same_weight v.arc a v.moment t (arc_at m v.arc).travel (arc_at m a).travel v.people (ap (λ z. (arc_at m z).travel))
      ∙ times_cond (eqb v.arc a && eqb v.moment t) (arrival m a t) v.people)
      ∙ sum_by-times (arrival m a t) (λ (v : Move). cond (eqb v.arc a && eqb v.moment t) v.people 0) p
      ∙ swap (arrival m a t) (sum_by (λ (v : Move). cond (eqb v.arc a && eqb v.moment t) v.people 0) p)

  late : (e : Bool) (s d k w : ℕ) → cond (ltb s (k + 1) && (e && leb (s + d) k)) w 0 ≡ cond (e && leb (s + d) k) w 0
  late e s d k w = grind (arith, nat_tests)

  pub periods_is : All (λ (v : Move). v.arc < length m.arcs) p → person_periods m p ≡ sum_by (λ a. sum_by (part_at m p a) (moments_to m.horizon)) (places m.arcs)
  unfolding person_periods weight
  periods_is h =
      sym (
      sum2-same (length m.arcs) (m.horizon + 1) (part_at m p) _ (λ a t. ap (λ z. cond (is_exit_at m (head m a) && leb (arrival m a t) m.horizon) z 0) (sym (inner a t)))
      ∙ gather (λ v. v.arc) (λ v. v.moment) weight (λ a t. is_exit_at m (head m a) && leb (arrival m a t) m.horizon) (length m.arcs) (m.horizon + 1) p h
      ∙ sum_by-same _ _ p (λ v. late (is_exit_at m (head m v.arc)) v.moment (arc_at m v.arc).travel m.horizon (v.people * arrival m v.arc v.moment))
      )
