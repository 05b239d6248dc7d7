-- The value of the cut of a period, as the sum of the shares of all entries, holds and arcs.
use Rattle.std.proofs.Common.{◌≡◌, ℕ, zero, suc, ◌+◌, ◌<◌, ◌≤◌, Bool, cond, not, ◌&&◌, ◌||◌, leb, ltb, eqb, ap, ◌∙◌, ◌⊎◌, inl, inr, arith}
use Rattle.std.specs.List.{sum_by}
use Rattle.std.proofs.lemmas.Bool.{cases_lt}
use Rattle.std.proofs.lemmas.Bool.Decides.{nat_tests}
use Rattle.evac_law.specs.declared.model.Model.{Model}
use Rattle.evac_law.specs.Building.{capacity, entry, rate}
use Rattle.evac_law.specs.Certificates.{label_cut}
use Rattle.evac_law.specs.Cuts.{cut_value, leaves_cut}
use Rattle.evac_law.specs.LabelTable.{LabelTable}
use Rattle.evac_law.specs.Sums.{below, moments_to, places}
use Rattle.evac_law.proofs.SumLemmas.{All-below, sum_below-suc, sum_by-exchange, sum_by-same, sum_by-same_all}
use Rattle.evac_law.proofs.WeakDuality.{value_is}
use Rattle.cut_witness.specs.Shares.{arc_shares, entry_shares, hold_shares}

-- terms from k on that are 0 add nothing
trim_more : (f g : ℕ → ℕ) (k h : ℕ) → (k ≤ h → sum_by f (below h) ≡ sum_by g (below k)) → k ≤ suc h → ((t : ℕ) → k ≤ t → f t ≡ 0)
    → ((t : ℕ) → t < k → f t ≡ g t) → sum_by f (below (suc h)) ≡ sum_by g (below k)
trim_more f g k h shorter l none same = split (cases_lt h k)
  where
    split : (h < k) ⊎ (k ≤ h) → sum_by f (below (suc h)) ≡ sum_by g (below k)
    split (inl last) =
        let whole : suc h ≡ k = omega arith in
        ap (λ n. sum_by f (below n)) whole ∙ sum_by-same_all f g (below k) (All-below (λ t. f t ≡ g t) k same)
    split (inr more) = omega (arith, sum_below-suc f h, shorter more, none h more)

pub trim : (f g : ℕ → ℕ) (k h : ℕ) → k ≤ h → ((t : ℕ) → k ≤ t → f t ≡ 0) → ((t : ℕ) → t < k → f t ≡ g t)
    → sum_by f (below h) ≡ sum_by g (below k)
trim f g k zero l none same = grind (arith, sum_by-same_all)
trim f g k (suc h) l none same = trim_more f g k h (λ less. trim f g k h less none same) l none same

-- one entry, one hold, one arc
entry_past : (t k e : ℕ) (x : Bool) → k + 1 ≤ t → cond (leb t k && not x) e 0 ≡ 0
entry_past t k e x l = grind (arith, nat_tests)

entry_by : (t k e : ℕ) (x : Bool) → t < k + 1 → cond (leb t k && not x) e 0 ≡ cond (x || eqb e 0) 0 e
entry_by t k e x l = grind (arith, nat_tests)

hold_past : (t k c : ℕ) (x : Bool) → k ≤ t → cond (ltb t k && x) c 0 ≡ 0
hold_past t k c x l = grind (arith, nat_tests)

hold_by : (t k c : ℕ) (x : Bool) → t < k → cond (ltb t k && x) c 0 ≡ cond x c 0
hold_by t k c x l = grind (arith, nat_tests)

arc_past : (t k r : ℕ) (x y : Bool) → k + 1 ≤ t → cond ((leb t k && x) && y) r 0 ≡ 0
arc_past t k r x y l = grind (arith, nat_tests)

-- the shares of a node or an arc at all moments are its items up to k
entries_are : (m : Model) (l : LabelTable) (k n : ℕ) → k ≤ m.horizon
    → entry_shares m l k n ≡ sum_by (λ t. cond (label_cut m l k n t || eqb (entry m n t) 0) 0 (entry m n t)) (moments_to k)
entries_are m l k n h = grind (arith, trim, entry_past, entry_by)

holds_are : (m : Model) (l : LabelTable) (k n : ℕ) → k ≤ m.horizon
    → hold_shares m l k n ≡ sum_by (λ t. cond (label_cut m l k n t && not (label_cut m l k n (t + 1))) (capacity m n) 0) (below k)
holds_are m l k n h = grind (arith, trim, hold_past, hold_by)

arcs_are : (m : Model) (l : LabelTable) (k a : ℕ) → k ≤ m.horizon
    → arc_shares m l k a ≡ sum_by (λ t. cond (leaves_cut m (label_cut m l k) k t a) (rate m a t) 0) (moments_to k)
arcs_are m l k a h = grind (arith, trim, arc_past)

-- the value is the sum of all shares
pub cut_shares : (m : Model) (l : LabelTable) (k : ℕ) → k ≤ m.horizon
    → cut_value m (label_cut m l k) k
    ≡ sum_by (entry_shares m l k) (places m.nodes) + sum_by (hold_shares m l k) (places m.nodes) + sum_by (arc_shares m l k) (places m.arcs)
cut_shares m l k h =
    omega (
      arith,
      value_is m (label_cut m l k) k,
      sum_by-same (entry_shares m l k) _ (places m.nodes) (λ n. entries_are m l k n h),
      sum_by-same (hold_shares m l k) _ (places m.nodes) (λ n. holds_are m l k n h),
      sum_by-same (arc_shares m l k) _ (places m.arcs) (λ a. arcs_are m l k a h),
      sum_by-exchange (λ t a. cond (leaves_cut m (label_cut m l k) k t a) (rate m a t) 0) (moments_to k) (places m.arcs),
    )
