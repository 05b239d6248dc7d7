-- Arrivals after pushes and cancels, and supplies within their limit.
use Rattle.std.proofs.Common.{◌≡◌, ℕ, ◌+◌, ◌≤◌, true, false, cond, leb, List, length, ap, sym, ◌∙◌, arith, inl, inr, ◌⊎◌}
use Rattle.std.proofs.lemmas.Bool.{cases_Bool}
use Rattle.evac_law.specs.declared.model.Model.{Model}
use Rattle.evac_law.specs.Limits.{people_limit}
use Rattle.evac_law.specs.Building.{IsValid, entry, people}
use Rattle.evac_law.proofs.SumLemmas as sums
use Rattle.residual_net.specs.declared.place.Place.{Place}
use Rattle.residual_net.specs.declared.place.Place.TheVariants.{Supply}
use Rattle.residual_net.specs.declared.place.PathStep.{PathStep}
use Rattle.residual_net.specs.Limits.{supply_limit}
use Rattle.residual_net.specs.declared.end.End.{End}
use Rattle.residual_net.specs.Site.{Site, IsPlace, arc_count, door_by, is_source, same_place, sum_places}
use Rattle.residual_net.specs.Network.{Network, arrived_by, flow_out, limit_at}
use Rattle.residual_net.specs.Route.{IsAugmentingPath, IsPushed}
use Rattle.residual_net.specs.Change.{IsCancelled, IsFlowPath, supply_limits_with}
use Rattle.residual_net.specs.OfModel.{site_of}
use Rattle.residual_net.proofs.Begin.{entries_are_people}
use Rattle.residual_net.proofs.Places.{same-place}
use Rattle.residual_net.proofs.Push.{arrived_moved}
use Rattle.residual_net.proofs.Taking.{arrived_falls, sent_falls}

pub push_moves : (w v : Network) (path : List PathStep) (x : ℕ) (e : End) (k : ℕ) → IsAugmentingPath w path x e k → IsPushed w v path x
    → (j : ℕ) → arrived_by v j + cond (door_by j e) x 0 ≡ arrived_by w j + cond (leb k j) x 0
push_moves w v path x e k p a j = arrived_moved w v path x a p.places e k p.origin p.leads j

pub fewer_sent : (w v : Network) (p : Place) (path : List PathStep) (x : ℕ) → IsCancelled w v p path x → flow_out v is_source + x ≡ flow_out w is_source
fewer_sent w v p path x c = sent_falls w v path x c.arrives.0 c.taken c.arrives.1

pub cancel_lowers : (w v : Network) (p : Place) (path : List PathStep) (x k : ℕ) → IsCancelled w v p path x → IsFlowPath w.site path k
    → (j : ℕ) → arrived_by v j + cond (leb k j) x 0 ≡ arrived_by w j
cancel_lowers w v p path x k c flow j = arrived_falls w v path x k c.taken flow j

-- ---- limits of supplies between those of two models

twice_fits : (a b : ℕ) → a ≤ people_limit → b ≤ people_limit → a + b ≤ supply_limit
unfolding people_limit supply_limit
twice_fits a b l h = omega (arith, l, h)

pub supplies_between : (m n : Model) (w : Network) (p : Place) (x : ℕ) → IsValid m → IsValid n → w.site ≡ site_of m → length n.nodes ≡ length m.nodes
    → n.horizon ≡ m.horizon
    → ((k t : ℕ) → IsPlace w.site (Supply k t) → limit_at w (Supply k t) ≤ entry m k t + entry n k t)
    → ((k t : ℕ) → p ≡ Supply k t → x ≤ entry m k t + entry n k t) → supply_limits_with w p x ≤ supply_limit
unfolding supply_limits_with sum_places
supplies_between m n w p x valid other site nodes horizon each here =
    let k = w.site.shape.horizon + 1 in
    let count : w.site.shape.nodes ≡ length m.nodes = ap (λ (s : Site). s.shape.nodes) site in
    let le = sums.sum2-le w.site.shape.nodes k (λ i t. cond (same_place p (Supply i t)) x (limit_at w (Supply i t))) (λ i t. entry m i t + entry n i t)
    (λ i t a b. at_place i t (a, omega (arith, b)) (cases_Bool (same_place p (Supply i t)))) in
    let add = sums.sum2-add w.site.shape.nodes k (entry m) (entry n) in
    let moments : w.site.shape.horizon ≡ m.horizon = ap (λ (s : Site). s.shape.horizon) site in
    let first = entries_are_people m w.site.shape.nodes w.site.shape.horizon valid count moments in
    let second = entries_are_people n w.site.shape.nodes w.site.shape.horizon other (count ∙ sym nodes) (moments ∙ sym horizon) in
    let fits = twice_fits (people m) (people n) valid.people_fit other.people_fit in
    omega (
      arith,
      sums.sum2-nothing (arc_count w.site) k,
      sums.sum2-nothing w.site.shape.nodes k,
      le,
      add,
      first,
      second,
      fits,
    )
  where
    at_place : (i t : ℕ) → IsPlace w.site (Supply i t) → (same_place p (Supply i t) ≡ true) ⊎ (same_place p (Supply i t) ≡ false)
        → cond (same_place p (Supply i t)) x (limit_at w (Supply i t)) ≤ entry m i t + entry n i t
    at_place i t a (inl e) = rw e (here i t (same-place p (Supply i t) e))
    at_place i t a (inr e) = rw e (each i t a)
