-- Moves in range, and that there are no others.
use Rattle.std.proofs.Common.{◌≡◌, ℕ, ◌<◌, ◌≤◌, cond, ◌&&◌, eqb, List, length, get_or, ◌∙◌, arith}
use Rattle.std.specs.List.{All}
use Rattle.std.proofs.lemmas.Bool.Decides.{nat_tests}
use Rattle.std.proofs.lemmas.List.Elements.{All-weaker}
use Rattle.evac_law.specs.declared.model.Model.{Model}
use Rattle.evac_law.specs.declared.plan.Move.{Move}
use Rattle.evac_law.specs.Plans.{moved}
use Rattle.evac_law.proofs.SumLemmas.{sum_by-nothing, sum_by-same_all}

-- moves of a model's arcs that begin by its horizon
pub record AreInRange (m : Model) (p : List Move) : Type 0 where
  pub arcs : All (λ (v : Move). v.arc < length m.arcs) p
  pub in_time : All (λ (v : Move). v.moment ≤ m.horizon) p

pub in_range_of : (m : Model) (p : List Move) → All (λ (v : Move). (v.arc < length m.arcs) × (v.moment ≤ m.horizon)) p → AreInRange m p
in_range_of m p h = record {
  arcs = All-weaker (λ (v : Move). (v.arc < length m.arcs) × (v.moment ≤ m.horizon)) (λ v. v.arc < length m.arcs) (λ v b. b.0) p h;
  in_time = All-weaker (λ (v : Move). (v.arc < length m.arcs) × (v.moment ≤ m.horizon)) (λ v. v.moment ≤ m.horizon) (λ v b. b.1) p h;
}

pub none_past : (m : Model) (p : List Move) → AreInRange m p → (a t : ℕ) → length m.arcs ≤ a → moved p a t ≡ 0
unfolding moved
none_past m p h a t l =
    sum_by-same_all (λ (v : Move). cond (eqb v.arc a && eqb v.moment t) v.people 0) (λ _. 0) p
    (λ i d b. let v = get_or p i d in other v.arc v.moment v.people (h.arcs i d b)) ∙ sum_by-nothing p
  where
    other : (b s w : ℕ) → b < length m.arcs → ◌≡◌ {A = ℕ} (cond (eqb b a && eqb s t) w 0) 0
    other b s w i = grind (arith, nat_tests)

pub none_late : (m : Model) (p : List Move) → AreInRange m p → (a t : ℕ) → m.horizon < t → moved p a t ≡ 0
unfolding moved
none_late m p h a t l =
    sum_by-same_all (λ (v : Move). cond (eqb v.arc a && eqb v.moment t) v.people 0) (λ _. 0) p
    (λ i d b. let v = get_or p i d in other v.arc v.moment v.people (h.in_time i d b)) ∙ sum_by-nothing p
  where
    other : (b s w : ℕ) → s ≤ m.horizon → ◌≡◌ {A = ℕ} (cond (eqb b a && eqb s t) w 0) 0
    other b s w i = grind (arith, nat_tests)
