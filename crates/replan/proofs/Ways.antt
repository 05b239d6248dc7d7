-- What the arcs of a node bring to it and take from it, as they are listed.
use Rattle.std.proofs.Common.{◌≡◌, ℕ, ◌+◌, ◌-◌, ◌<◌, Bool, cond, ◌&&◌, eqb, leb, ltb, List, length, ap, sym, ◌∙◌, arith}
use Rattle.std.specs.List.{All, filter, range_with_len, sum_by}
use Rattle.std.proofs.lemmas.List.{get_or-map, length-map}
use Rattle.std.proofs.lemmas.Bool.Decides.{nat_tests}
use Rattle.evac_law.specs.declared.model.Model.{Model}
use Rattle.evac_law.specs.declared.plan.Move.{Move}
use Rattle.evac_law.specs.Building.{arc_at, arrival, head, no_arc, tail}
use Rattle.evac_law.specs.Plans.{coming, leaving, moved}
use Rattle.evac_law.specs.Sums.{below, places}
use Rattle.evac_law.proofs.SumLemmas.{All-below, by_place, sum_by-same, sum_by-same_all}
use Rattle.plan_layout.specs.Layouts.{ends_of, shape_of}
use Rattle.time_expansion.specs.Expansion.{arcs_from, arcs_to, from_at, no_ends, to_at}
use Rattle.replan.specs.Committed.{moves_before}
use Rattle.replan.specs.Standing.{arriving_by}
use Rattle.replan.proofs.Parted.{both, over_filter}

-- a sum over the arcs of a node, as a guarded sum over all arcs
at_node : (m : Model) (at ends : ℕ → ℕ) (n : ℕ) (f : ℕ → ℕ) → ((a : ℕ) → a < length m.arcs → at a ≡ ends a)
    → sum_by f (filter (λ a. eqb (at a) n) (range_with_len 0 (length (shape_of m).ends))) ≡ sum_by (λ a. cond (eqb (ends a) n) (f a) 0) (places m.arcs)
at_node m at ends n f same =
    over_filter (λ a. eqb (at a) n) f (range_with_len 0 (length (shape_of m).ends))
    ∙ ap (λ k. sum_by (λ a. cond (eqb (at a) n) (f a) 0) (range_with_len 0 k)) (length-map m.arcs ends_of)
    ∙ sum_by-same_all _ _ (below (length m.arcs))
    (All-below (λ a. cond (eqb (at a) n) (f a) 0 ≡ cond (eqb (ends a) n) (f a) 0) (length m.arcs) (λ a l. ap (λ z. cond (eqb z n) (f a) 0) (same a l)))

-- whoever leaves a node at a moment enters one of its arcs then
pub leaving_is : (m : Model) (p : List Move) (n t : ℕ) → All (λ v. v.arc < length m.arcs) p
    → sum_by (λ a. moved p a t) (arcs_from (shape_of m) n) ≡ leaving m p n t
unfolding arcs_from leaving moved
leaving_is m p n t h =
    at_node m (from_at (shape_of m)) (tail m) n (λ a. moved p a t) (λ a l. ap (λ z. z.from) (get_or-map ends_of m.arcs a no_arc no_ends l))
    ∙ by_place (λ a. eqb (tail m a) n) (λ (v : Move). v.arc) (λ v. v.people) (λ a v. eqb v.moment t) (length m.arcs) p h

in_time : (e : Bool) (x d t s w : ℕ)
    → cond ((e && (leb d t && ltb (t - d) s)) && eqb x (t - d)) w 0 ≡ cond (ltb x s) (cond (e && eqb (x + d) t) w 0) 0
in_time e x d t s w = grind (arith, nat_tests)

-- whoever comes to a node at a moment by moves before s entered one of its arcs before s
pub coming_is : (m : Model) (p : List Move) (s n t : ℕ) → All (λ v. v.arc < length m.arcs) p
    → sum_by (arriving_by m p s t) (arcs_to (shape_of m) n) ≡ coming m (moves_before s p) n t
unfolding arcs_to coming moved
coming_is m p s n t h =
    let d = λ (a : ℕ). (arc_at m a).travel in
    let then = λ (a : ℕ). leb (d a) t && ltb (t - d a) s in
    at_node m (to_at (shape_of m)) (head m) n (arriving_by m p s t) (λ a l. ap (λ z. z.to) (get_or-map ends_of m.arcs a no_arc no_ends l))
    ∙ sum_by-same _ _ (places m.arcs) (λ a. both (eqb (head m a) n) (then a) (moved p a (t - d a)))
    ∙ by_place (λ a. eqb (head m a) n && then a) (λ (v : Move). v.arc) (λ v. v.people) (λ a v. eqb v.moment (t - d a)) (length m.arcs) p h
    ∙ sum_by-same _ _ p (λ v. in_time (eqb (head m v.arc) n) v.moment (d v.arc) t s v.people)
    ∙ sym (over_filter (λ v. ltb v.moment s) (λ v. cond (eqb (head m v.arc) n && eqb (arrival m v.arc v.moment) t) v.people 0) p)
