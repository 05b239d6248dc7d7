-- Plans that share their moves before a moment have the same sums of them.
use Rattle.std.proofs.Common.{◌≡◌, ℕ, ◌<◌, Bool, cond, ltb, List, length, ap, sym, ◌∙◌, arith}
use Rattle.std.specs.List.{All}
use Rattle.evac_law.specs.declared.model.Model.{Model}
use Rattle.evac_law.specs.declared.plan.Move.{Move}
use Rattle.evac_law.specs.Plans.{moved}
use Rattle.evac_law.specs.Sums.{below}
use Rattle.evac_law.proofs.SumLemmas.{All-below, gather, sum2, sum_by-same, sum_by-same_all}
use Rattle.replan.specs.Committed.{SharesMoves, moves_before, moves_from}
use Rattle.replan.proofs.Parted.{IsBehind, both, counted, over_filter, own_behind}

-- what a plan's moves before s count, by arc and moment
by_arc_and_moment : (b : ℕ → ℕ → Bool) (s n : ℕ) (p : List Move) → All (λ v. v.arc < n) p
    → counted b (moves_before s p) ≡ sum2 n s (λ i j. cond (b i j) (moved p i j) 0)
unfolding moved
by_arc_and_moment b s n p h =
    over_filter (λ v. ltb v.moment s) (λ v. cond (b v.arc v.moment) v.people 0) p
    ∙ sum_by-same _ _ p (λ v. both (ltb v.moment s) (b v.arc v.moment) v.people)
    ∙ sym (gather (λ (v : Move). v.arc) (λ v. v.moment) (λ v. v.people) b n s p h)

shared : (b : ℕ → ℕ → Bool) (s n : ℕ) (p q : List Move) → All (λ v. v.arc < n) p → All (λ v. v.arc < n) q → SharesMoves s p q
    → counted b (moves_before s q) ≡ counted b (moves_before s p)
shared b s n p q h i same =
    by_arc_and_moment b s n q i
    ∙ sum_by-same _ _ (below n)
    (λ a. sum_by-same_all _ _ (below s)
    (All-below (λ t. cond (b a t) (moved q a t) 0 ≡ cond (b a t) (moved p a t) 0) s (λ t l. ap (λ w. cond (b a t) w 0) (same a t l))))
    ∙ sym (by_arc_and_moment b s n p h)

-- whatever is counted, a plan that shares them is the moves made and then its own from s on
pub shared_behind : (m : Model) (p q : List Move) (s : ℕ) → All (λ v. v.arc < length m.arcs) p → All (λ v. v.arc < length m.arcs) q → SharesMoves s p q
    → IsBehind m p s (moves_from s q) q
shared_behind m p q s in_p in_q same =
    let own = own_behind m q s in_q in
    record { arcs = own.arcs; counts = λ b. omega (arith, own.counts b, shared b s (length m.arcs) p q in_p in_q same) }
