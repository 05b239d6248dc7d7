-- Labels that were read back certify the plan.
use Rattle.std.proofs.Common.{◌≡◌, ℕ, ◌+◌, ◌<◌, ◌≤◌, Bool, true, false, cond, not, ◌&&◌, ◌||◌, min, nat_eq, List, length, refl, sym, ap, ap₂, ◌∙◌, arith}
use Rattle.std.specs.Prelude.{nat_le, nat_lt, IsFalse}
use Rattle.std.specs.List.{sum_by}
use Rattle.std.proofs.lemmas.Bool.{leb-true}
use Rattle.std.proofs.lemmas.Bool.Decides.{nat_tests}
use Rattle.evac_law.specs.declared.model.Model.{Model}
use Rattle.evac_law.specs.declared.plan.Move.{Move}
use Rattle.evac_law.specs.Building.{IsValid, arrival, capacity, entry, head, is_exit_at, rate, tail}
use Rattle.evac_law.specs.Certificates.{IsCertified, label_cut}
use Rattle.evac_law.specs.Cuts.{Cut, cut_value, leaves_cut}
use Rattle.evac_law.specs.LabelTable.{LabelTable, label_at}
use Rattle.evac_law.specs.Sums.{below, moments_to, places}
use Rattle.evac_law.proofs.SumLemmas.{sum_below-same, sum_by-same}
use Rattle.evac_law.proofs.ValidLemmas.{head_in, tail_in}
use Rattle.evac_law.proofs.WeakDuality.{value_is}
use Rattle.certificate_text.specs.BlockText.{shown_label}

-- the value of a cut goes by the model's nodes alone
value-same : (m : Model) (x y : Cut) (k : ℕ) → IsValid m → ((n t : ℕ) → n < length m.nodes → x n t ≡ y n t) → cut_value m x k ≡ cut_value m y k
value-same m x y k valid same =
    let entries = sum_below-same (λ n. sum_by (λ t. cond (x n t || nat_eq (entry m n t) 0) 0 (entry m n t)) (moments_to k)) (λ n. sum_by (λ t. cond (y n t || nat_eq (entry m n t) 0) 0 (entry m n t)) (moments_to k)) (length m.nodes)
    (λ n h. sum_by-same (λ t. cond (x n t || nat_eq (entry m n t) 0) 0 (entry m n t)) (λ t. cond (y n t || nat_eq (entry m n t) 0) 0 (entry m n t)) (moments_to k)
    (λ t. ap (λ b. cond (b || nat_eq (entry m n t) 0) 0 (entry m n t)) (same n t h))) in
    let holds = sum_below-same (λ n. sum_by (λ t. cond (x n t && not (x n (t + 1))) (capacity m n) 0) (below k)) (λ n. sum_by (λ t. cond (y n t && not (y n (t + 1))) (capacity m n) 0) (below k)) (length m.nodes)
    (λ n h. sum_by-same (λ t. cond (x n t && not (x n (t + 1))) (capacity m n) 0) (λ t. cond (y n t && not (y n (t + 1))) (capacity m n) 0) (below k)
    (λ t. ap₂ (λ b d. cond (b && not d) (capacity m n) 0) (same n t h) (same n (t + 1) h))) in
    let arcs = sum_by-same (λ t. sum_by (λ a. cond (leaves_cut m x k t a) (rate m a t) 0) (places m.arcs)) (λ t. sum_by (λ a. cond (leaves_cut m y k t a) (rate m a t) 0) (places m.arcs)) (moments_to k)
    (λ t. sum_below-same (λ a. cond (leaves_cut m x k t a) (rate m a t) 0) (λ a. cond (leaves_cut m y k t a) (rate m a t) 0) (length m.arcs)
    (λ a h. ap₂ (λ b d. cond (b && (nat_le (arrival m a t) k && (is_exit_at m (head m a) || not d))) (rate m a t) 0) (same (tail m a) t (tail_in m a valid h)) (same (head m a) (arrival m a t) (head_in m a valid h)))) in
    value_is m x k ∙ ap₂ (λ u v. u + v) entries (ap₂ (λ u v. u + v) holds arcs) ∙ sym (value_is m y k)

-- a label below c that is cut to c is as much above k
cap-test : (k x c : ℕ) → k < c → nat_lt k (min x c) ≡ nat_lt k x
cap-test k x c h = grind (arith, nat_tests)

inside-same : (k c x s : ℕ) (early exit : Bool) → k < c → (early ≡ true → exit ≡ false → s ≡ min x c) → (early && (not exit && nat_lt k x)) ≡ (early && (not exit && nat_lt k s))
inside-same k c x s false exit h is = refl
inside-same k c x s true true h is = refl
inside-same k c x s true false h is = sym (cap-test k x c h) ∙ ap (nat_lt k) (sym (is refl refl))

-- the shown labels make the same cuts before the last arrival
pub shown-certified : (m : Model) (p : List Move) (l shown : LabelTable) (c : ℕ) → IsValid m → IsCertified m p l c
    → ((n t : ℕ) → n < length m.nodes → IsFalse (is_exit_at m n) → t < c → label_at shown n t ≡ shown_label l c n t) → IsCertified m p shown c
shown-certified m p l shown c valid cert is = record {
  in_horizon = cert.in_horizon;
  feasible = cert.feasible;
  all_out = cert.all_out;
  arrives = cert.arrives;
  cuts = λ k h. cert.cuts k h ∙ value-same m (label_cut m l k) (label_cut m shown k) k valid
      (λ n t a. inside-same k c (label_at l n t) (label_at shown n t) (nat_le t k) (is_exit_at m n) h (λ early open_node. is n t a open_node (let b : t ≤ k = leb-true t k early in omega (arith, b, h))));
  least = cert.least;
}
