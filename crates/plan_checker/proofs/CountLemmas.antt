-- Counts: some people more at a place, and what they say of who came and who left.
use Rattle.std.proofs.Common.{◌≡◌, ℕ, zero, suc, ◌+◌, ◌<◌, ◌≤◌, ◌^◌, List, length, get_or, take, refl, ap, sym, ◌∙◌, arith}
use Rattle.std.specs.List.{sum_by}
use Rattle.std.proofs.lemmas.Int.{ints}
use Rattle.std.proofs.lemmas.List.Sums.{sum_by_more_le_part}
use Rattle.evac_law.specs.declared.model.Model.{Model}
use Rattle.evac_law.specs.declared.plan.Move.{Move}
use Rattle.evac_law.specs.Building.{IsValid, entry}
use Rattle.evac_law.specs.Limits.{people_limit}
use Rattle.evac_law.specs.Plans.{came, coming, held, leaving, left, out_by}
use Rattle.evac_law.specs.Sums.{moments_to}
use Rattle.evac_law.proofs.Curve.{arriving, out_is_sum}
use Rattle.evac_law.proofs.Entries.{entries_le}
use Rattle.evac_law.proofs.SumLemmas.{All-below, cond_le, sum_by-le_all, sum_by-same_all, sum_moments-suc, sum_moments-zero}
use Rattle.evac_law.proofs.WeakDuality.{came-suc, came-zero, left-suc, left-zero}
use Rattle.plan_checker.specs.Counts.{Counts, IsCountedWell, all_moved, arriving_at, came_by, count, left_by}
use Rattle.plan_checker.specs.Parts.{IsHeldWell}

-- ---- what counts say

came_is : (m : Model) (p : List Move) (n t : ℕ) → came m p n t ≡ sum_by (λ s. entry m n s + coming m p n s) (moments_to t)
came_is m p n zero = came-zero m p n ∙ sym (sum_moments-zero (λ s. entry m n s + coming m p n s))
came_is m p n (suc t) = omega (arith, came-suc m p n t, came_is m p n t, sum_moments-suc (λ s. entry m n s + coming m p n s) t)

left_is : (m : Model) (p : List Move) (n t : ℕ) → left m p n t ≡ sum_by (leaving m p n) (moments_to t)
left_is m p n zero = left-zero m p n ∙ sym (sum_moments-zero (leaving m p n))
left_is m p n (suc t) = omega (arith, left-suc m p n t, left_is m p n t, sum_moments-suc (leaving m p n) t)

pub came_counted : (m : Model) (p : List Move) (c : Counts) (n t : ℕ) → ((s : ℕ) → s ≤ t → count c n s ≡ coming m p n s) → came_by m c n t ≡ came m p n t
came_counted m p c n t h =
    sum_by-same_all _ _ (moments_to t)
    (All-below (λ s. entry m n s + count c n s ≡ entry m n s + coming m p n s) (t + 1)
    (λ s l. ap (λ z. entry m n s + z) (h s (omega (arith, l)))))
    ∙ sym (came_is m p n t)

pub left_counted : (m : Model) (p : List Move) (c : Counts) (n t : ℕ) → ((s : ℕ) → s ≤ t → count c n s ≡ leaving m p n s) → left_by c n t ≡ left m p n t
left_counted m p c n t h =
    sum_by-same_all _ _ (moments_to t)
    (All-below (λ s. count c n s ≡ leaving m p n s) (t + 1) (λ s l. h s (omega (arith, l))))
    ∙ sym (left_is m p n t)

-- a node holds well by the counts exactly where it does by the plan
pub held_from_counted : (m : Model) (p : List Move) (came' left' : Counts) (n t : ℕ) → came_by m came' n t ≡ came m p n t → left_by left' n t ≡ left m p n t
    → IsCountedWell m came' left' n t → IsHeldWell m p n t
unfolding held
held_from_counted m p c d n t e f w = (omega (arith, ints, w.0, w.1, e, f), omega (arith, ints, w.0, w.1, e, f))

pub counted_from_held : (m : Model) (p : List Move) (came' left' : Counts) (n t : ℕ) → came_by m came' n t ≡ came m p n t → left_by left' n t ≡ left m p n t
    → IsHeldWell m p n t → IsCountedWell m came' left' n t
unfolding held
counted_from_held m p c d n t e f w = (omega (arith, ints, w.0, w.1, e, f), omega (arith, ints, w.0, w.1, e, f))

-- ---- bounds

pub came_fits : (m : Model) (p : List Move) (n t : ℕ) → IsValid m → n < length m.nodes → all_moved p < 2 ^ 62 → came m p n t < 2 ^ 63
unfolding came people_limit
came_fits m p n t valid l few = grind (arith, entries_le, sum_by-le_all, cond_le)

pub left_fits : (m : Model) (p : List Move) (n t : ℕ) → all_moved p < 2 ^ 62 → left m p n t < 2 ^ 63
unfolding left
left_fits m p n t few = grind (arith, sum_by-le_all, cond_le)

-- what is counted so far and the next move's people are within all
pub leaving_room : (m : Model) (p : List Move) (i n t : ℕ) (d : Move) → i < length p → leaving m (take i p) n t + (get_or p i d).people ≤ all_moved p
unfolding leaving
leaving_room m p i n t d l = grind (arith, sum_by_more_le_part, cond_le)

pub coming_room : (m : Model) (p : List Move) (i n t : ℕ) (d : Move) → i < length p → coming m (take i p) n t + (get_or p i d).people ≤ all_moved p
unfolding coming
coming_room m p i n t d l = grind (arith, sum_by_more_le_part, cond_le)

pub arriving_room : (m : Model) (p : List Move) (i t : ℕ) (d : Move) → i < length p → arriving_at m (take i p) t + (get_or p i d).people ≤ all_moved p
arriving_room m p i t d l = grind (arith, sum_by_more_le_part, cond_le)

-- ---- the curve

arriving_same : (m : Model) (p : List Move) (t : ℕ) → arriving m p t ≡ arriving_at m p t
unfolding arriving
arriving_same m p t = refl

pub curve_counted : (m : Model) (p : List Move) (xs : List ℕ) (k : ℕ) → ((t : ℕ) → t ≤ k → get_or xs t 0 ≡ arriving_at m p t)
    → sum_by (λ t. get_or xs t 0) (moments_to k) ≡ out_by m p k
curve_counted m p xs k h =
    sum_by-same_all (λ t. get_or xs t 0) (arriving m p) (moments_to k)
    (All-below (λ t. get_or xs t 0 ≡ arriving m p t) (k + 1) (λ t l. h t (omega (arith, l)) ∙ sym (arriving_same m p t)))
    ∙ sym (out_is_sum m p k)

pub out_fits : (m : Model) (p : List Move) (k : ℕ) → out_by m p k ≤ all_moved p
unfolding out_by
out_fits m p k = grind (arith, sum_by-le_all, cond_le)
