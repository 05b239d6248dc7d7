-- A label that is set.
use Rattle.std.proofs.Common.{◌≡◌, ◌≢◌, ℕ, ◌+◌, ◌*◌, ◌<◌, ◌≤◌, Bool, true, false, cond, not, ◌&&◌, eqb, length, sym, ◌⊎◌, arith, inl, inr}
use Rattle.std.proofs.lemmas.Bool.{cases_eq, eq-eqb, ne_eqb, and_left, and_right}
use Rattle.std.proofs.lemmas.List.{get_or-set_same, get_or-set_other}
use Rattle.std.proofs.lemmas.List.Sums.{count_by-le-length, sum_by-set}
use Rattle.std.proofs.lemmas.Nat.{same_from_place}
use Rattle.evac_law.proofs.LabelLemmas.{label_within}
use Rattle.evac_law.specs.LabelTable.{LabelTable, label_at, label_place, with_label}
use Rattle.terminal_augment.specs.Floods.{open_count}

pub label_set : (l : LabelTable) (n t u v k : ℕ) → length l.list ≡ l.nodes * (l.horizon + 1) → n < l.nodes → t ≤ l.horizon → u < l.nodes → v ≤ l.horizon
    → label_at (with_label l n t k) u v ≡ cond (eqb n u && eqb t v) k (label_at l u v)
label_set l n t u v k full a b c d = by (cases_eq n u) (cases_eq t v)
  where
    same : n ≡ u → t ≡ v → label_place l n t ≡ label_place l u v
    same p q = rw (p, q)

    here : (x y : Bool) → x ≡ true → y ≡ true → label_at (with_label l n t k) u v ≡ k → label_at (with_label l n t k) u v ≡ cond (x && y) k (label_at l u v)
    here true true p q e = e
    here true false p q e = absurd (cc)
    here false y p q e = absurd (cc)

    other : (x : Bool) → x ≡ false → (label_place l u v ≢ label_place l n t) → label_at (with_label l n t k) u v ≡ cond x k (label_at l u v)
    other true p e = absurd (cc)
    other false p e = get_or-set_other l.list (label_place l n t) (label_place l u v) k 0 e

    differ : (n ≡ u → t ≡ v → ⊥) → label_place l u v ≢ label_place l n t
    differ f e =
        let both = same_from_place u v n t (l.horizon + 1) (omega (arith, d)) (omega (arith, b)) e in
        f (sym both.0) (sym both.1)

    by : (n ≡ u) ⊎ (n ≡ u → ⊥) → (t ≡ v) ⊎ (t ≡ v → ⊥) → label_at (with_label l n t k) u v ≡ cond (eqb n u && eqb t v) k (label_at l u v)
    by (inl p) (inl q) = grind (arith, here, eq-eqb, same, get_or-set_same, label_within)
    by (inl p) (inr q) = other (eqb n u && eqb t v) (and_right _ _ (ne_eqb t v q)) (differ (λ _ z. q z))
    by (inr p) q = other (eqb n u && eqb t v) (and_left _ _ (ne_eqb n u p)) (differ (λ z _. p z))

-- ---- how many aren't labelled k

abbrev one_if : Bool → ℕ
one_if b = cond b 1 0

pub open_labelled : (l : LabelTable) (n t k : ℕ) → length l.list ≡ l.nodes * (l.horizon + 1) → n < l.nodes → t ≤ l.horizon → (label_at l n t ≢ k)
    → open_count (with_label l n t k) k + 1 ≡ open_count l k
unfolding open_count
open_labelled l n t k full node moment other = grind (arith, sum_by-set, label_within, ne_eqb, other, eq-eqb)

pub open_few : (l : LabelTable) (k : ℕ) → open_count l k ≤ length l.list
unfolding open_count
open_few l k = count_by-le-length (λ x. not (eqb x k)) l.list
