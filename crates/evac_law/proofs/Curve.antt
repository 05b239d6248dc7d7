-- The arrival curve, period by period.
use Rattle.std.proofs.Common.{◌≡◌, ℕ, zero, suc, ◌+◌, ◌-◌, ◌<◌, Bool, cond, ◌&&◌, eqb, leb, List, length, ap, sym, ◌∙◌, arith}
use Rattle.std.specs.List.{sum_by, All}
use Rattle.std.proofs.lemmas.Bool.Decides.{nat_tests}
use Rattle.evac_law.specs.Building.{arc_at, arrival, head, is_exit_at}
use Rattle.evac_law.specs.Plans.{moved, out_by}
use Rattle.evac_law.specs.Sums.{below, moments_to, places}
use Rattle.evac_law.specs.declared.model.Model.{Model}
use Rattle.evac_law.specs.declared.plan.Move.{Move}
use Rattle.evac_law.proofs.SumLemmas.{by_place, by_suc, by_zero, sum_by-add, sum_by-same, sum_moments-suc, sum_moments-zero}

-- the people who arrive at exits at a moment, by the moves and by the arcs
unfoldable pub arriving : Model → List Move → ℕ → ℕ
arriving m p k = sum_by (λ v. cond (is_exit_at m (head m v.arc) && eqb (arrival m v.arc v.moment) k) v.people 0) p

unfoldable pub arriving_by : Model → List Move → ℕ → ℕ → ℕ
arriving_by m p k a = cond (leb (arc_at m a).travel k && is_exit_at m (head m a)) (moved p a (k - (arc_at m a).travel)) 0

-- whoever is out by a moment arrived at one of the moments up to it
pub out_is_sum : (m : Model) (p : List Move) (k : ℕ) → out_by m p k ≡ sum_by (arriving m p) (moments_to k)
unfolding out_by arriving
out_is_sum m p zero = grind (arith, sum_by-same, by_zero, sum_moments-zero)
out_is_sum m p (suc k) =
    sum_by-same _ _ p (λ v. by_suc (is_exit_at m (head m v.arc)) (arrival m v.arc v.moment) k v.people)
    ∙ sum_by-add (λ v. cond (is_exit_at m (head m v.arc) && leb (arrival m v.arc v.moment) k) v.people 0)
    (λ v. cond (is_exit_at m (head m v.arc) && eqb (arrival m v.arc v.moment) (suc k)) v.people 0) p
    ∙ ap (λ z. z + arriving m p (suc k)) (out_is_sum m p k)
    ∙ sym (sum_moments-suc (arriving m p) k)

-- moves gathered by arc, each arc at one moment
pub by_arc : (b : ℕ → Bool) (s : ℕ → ℕ) (n : ℕ) (xs : List Move) → All (λ v. v.arc < n) xs
    → sum_by (λ a. cond (b a) (sum_by (λ (v : Move). cond (eqb v.arc a && eqb v.moment (s a)) v.people 0) xs) 0) (below n)
    ≡ sum_by (λ (v : Move). cond (b v.arc && eqb v.moment (s v.arc)) v.people 0) xs
by_arc b s n xs h = by_place b (λ (v : Move). v.arc) (λ (v : Move). v.people) (λ a v. eqb v.moment (s a)) n xs h

in_time : (e : Bool) (t d k w : ℕ) → cond ((leb d k && e) && eqb t (k - d)) w 0 ≡ cond (e && eqb (t + d) k) w 0
in_time e t d k w = grind (arith, nat_tests)

pub arriving_is : (m : Model) (p : List Move) (k : ℕ) → All (λ v. v.arc < length m.arcs) p
    → arriving m p k ≡ sum_by (arriving_by m p k) (places m.arcs)
unfolding arriving arriving_by moved
arriving_is m p k h =
    let b = λ (a : ℕ). leb (arc_at m a).travel k && is_exit_at m (head m a) in
    let s = λ (a : ℕ). k - (arc_at m a).travel in
    sym (
    by_arc b s (length m.arcs) p h
    ∙ sum_by-same _ _ p (λ v. in_time (is_exit_at m (head m v.arc)) v.moment (arc_at m v.arc).travel k v.people)
    )
