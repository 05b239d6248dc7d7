-- Labels that are filled run by run.
use Rattle.std.proofs.Common.{◌≡◌, ℕ, ◌+◌, ◌*◌, ◌<◌, ◌≤◌, Bool, true, false, cond, ◌&&◌, nat_eq, nat_le, nat_lt, length, sym, ap, ap₂, ◌∙◌, inl, inr, arith, get_or-set_same, get_or-set_other, length-set}
use Rattle.std.proofs.Math.Nat.{mul_comm}
use Rattle.std.proofs.lemmas.Bool.{and_from, and_right, cases_eq, cases_lt, eq-eqb, ne_eqb, lt-ltb, le-ltb, le-leb, lt-leb, and_left}
use Rattle.std.proofs.lemmas.Nat.{mul-add-lt, same_from_place}
use Rattle.evac_law.specs.LabelTable.{LabelTable, label_at, label_place, with_label}
use Rattle.block_reader.specs.declared.run.Run.{Run}
use Rattle.block_reader.specs.Drafts.{filled}

-- there is a label for each node and moment
pub record IsFull (l : LabelTable) : Type 0 where
  pub full : length l.list ≡ l.nodes * (l.horizon + 1)

place-in : (l : LabelTable) (n t : ℕ) → IsFull l → n < l.nodes → t ≤ l.horizon → label_place l n t < length l.list
place-in l n t f a b = grind (arith, mul-add-lt, mul_comm)

pub set-same : (l : LabelTable) (n t v : ℕ) → IsFull l → n < l.nodes → t ≤ l.horizon → label_at (with_label l n t v) n t ≡ v
set-same l n t v f a b = get_or-set_same l.list (label_place l n t) v 0 (place-in l n t f a b)

pub set-other : (l : LabelTable) (n t v i j : ℕ) → t ≤ l.horizon → j ≤ l.horizon → ((i ≡ n) × (j ≡ t) → ⊥) → label_at (with_label l n t v) i j ≡ label_at l i j
set-other l n t v i j a b apart =
    get_or-set_other l.list (label_place l n t) (label_place l i j) v 0
    (λ e. apart (same_from_place i j n t (l.horizon + 1) (omega arith) (omega arith) e))

pub set-full : (l : LabelTable) (n t v : ℕ) → IsFull l → IsFull (with_label l n t v)
set-full l n t v f = record { full = length-set l.list (label_place l n t) v ∙ f.full }

-- ---- one moment more

lt-more : (t m : ℕ) → (t ≡ m → ⊥) → nat_lt t (m + 1) ≡ nat_lt t m
lt-more t m ne = grind (arith, cases_lt, lt-ltb, le-ltb)

-- whether a cell is one of a run's, up to a stop
abbrev is_in : Run → ℕ → ℕ → ℕ → Bool
is_in r stop n t = nat_eq r.node n && (nat_le r.moment t && nat_lt t stop)

-- a cell that isn't
pub filled-else : (l : LabelTable) (r : Run) (stop n t : ℕ) → is_in r stop n t ≡ false → filled l r stop n t ≡ label_at l n t
filled-else l r stop n t e = ap (λ b. cond b r.label (label_at l n t)) e

-- a cell that is
pub filled-in : (l : LabelTable) (r : Run) (stop n t : ℕ) → is_in r stop n t ≡ true → filled l r stop n t ≡ r.label
filled-in l r stop n t e = ap (λ b. cond b r.label (label_at l n t)) e

pub outside-node : (r : Run) (stop n t : ℕ) → (r.node ≡ n → ⊥) → is_in r stop n t ≡ false
outside-node r stop n t ne = and_left (nat_eq r.node n) (nat_le r.moment t && nat_lt t stop) (ne_eqb r.node n ne)

pub outside-before : (r : Run) (stop n t : ℕ) → t < r.moment → is_in r stop n t ≡ false
outside-before r stop n t l = and_right (nat_eq r.node n) (nat_le r.moment t && nat_lt t stop) (and_left (nat_le r.moment t) (nat_lt t stop) (lt-leb r.moment t l))

pub outside-behind : (r : Run) (stop n t : ℕ) → stop ≤ t → is_in r stop n t ≡ false
outside-behind r stop n t l = and_right (nat_eq r.node n) (nat_le r.moment t && nat_lt t stop) (and_right (nat_le r.moment t) (nat_lt t stop) (le-ltb t stop l))

pub inside-all : (r : Run) (stop n t : ℕ) → r.node ≡ n → r.moment ≤ t → t < stop → is_in r stop n t ≡ true
inside-all r stop n t e a b = grind (arith, and_from, eq-eqb, le-leb, lt-ltb)

pub filled-none : (l : LabelTable) (r : Run) (stop n t : ℕ) → stop ≤ r.moment → filled l r stop n t ≡ label_at l n t
filled-none l r stop n t a = grind (arith, cases_lt, filled-else, outside-before, outside-behind)

-- up to a stop before the run nothing is filled
pub filled-short : (l : LabelTable) (r : Run) (m stop n t : ℕ) → m ≡ r.moment → stop ≤ m → filled l r m n t ≡ filled l r stop n t
filled-short l r m stop n t e a = filled-none l r m n t (omega arith) ∙ sym (filled-none l r stop n t (omega arith))

pub filled-more : (l0 l : LabelTable) (r : Run) (m n t : ℕ) → IsFull l → r.node < l.nodes → r.moment ≤ m → m ≤ l.horizon → t ≤ l.horizon
    → label_at l n t ≡ filled l0 r m n t → label_at (with_label l r.node m r.label) n t ≡ filled l0 r (m + 1) n t
filled-more l0 l r m n t f a b d k h =
    elim (cases_eq r.node n) [
      | inr ne ↦ set-other l r.node m r.label n t d k (λ p. ne (sym p.0)) ∙ h
          ∙ filled-else l0 r m n t (outside-node r m n t ne) ∙ sym (filled-else l0 r (m + 1) n t (outside-node r (m + 1) n t ne))
      | inl e ↦ elim (cases_eq t m) [
        | inl q ↦ ap₂ (λ i j. label_at (with_label l r.node m r.label) i j) (sym e) q ∙ set-same l r.node m r.label f a d
            ∙ sym (filled-in l0 r (m + 1) n t (inside-all r (m + 1) n t e (omega arith) (omega arith)))
        | inr ne ↦ set-other l r.node m r.label n t d k (λ p. ne p.1) ∙ h
            ∙ ap (λ w. cond (nat_eq r.node n && (nat_le r.moment t && w)) r.label (label_at l0 n t)) (sym (lt-more t m ne))
      ]
    ]
