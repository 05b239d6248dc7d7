-- Counts that grow from moment to moment: each number is at one moment, and who comes earlier doesn't leave later.
use Rattle.std.proofs.Common.{◌≡◌, ℕ, zero, suc, ◌+◌, ◌<◌, ◌≤◌, inl, inr, ap, arith, add-one}
use Rattle.std.proofs.lemmas.Bool.{cases_lt}
use Rattle.cards.specs.Numbers.{IsCountedAt, count_before}

abbrev pub Grows : (ℕ → ℕ) → Type 0
Grows f = (t : ℕ) → f t ≤ f (suc t)

pub count_before-more : (f : ℕ → ℕ) (t : ℕ) → count_before f (t + 1) ≡ f t
count_before-more f t = ap (count_before f) (add-one t)

pub grown : (f : ℕ → ℕ) (s t : ℕ) → Grows f → s ≤ t → f s ≤ f t
grown f s zero g l = let same : s ≡ 0 = omega arith in rw same (omega arith)
grown f s (suc t) g l = elim (cases_lt s (suc t)) [
  | inl less ↦ omega (arith, grown f s t g (omega arith), g t)
  | inr last ↦ let same : s ≡ suc t = omega arith in rw same (omega arith)
]

-- by an earlier moment there were no more than before a later one
pub grown_before : (f : ℕ → ℕ) (s t : ℕ) → Grows f → s < t → f s ≤ count_before f t
grown_before f s zero g l = absurd (omega (arith, l))
grown_before f s (suc t) g l = grown f s t g (omega (arith, l))

pub later_number : (f : ℕ → ℕ) (i j s t : ℕ) → Grows f → IsCountedAt f i s → IsCountedAt f j t → s < t → i < j
later_number f i j s t g a b l =
    omega (arith, grown_before f s t g l)

pub one_moment : (f : ℕ → ℕ) (i s t : ℕ) → Grows f → IsCountedAt f i s → IsCountedAt f i t → s ≡ t
one_moment f i s t g a b = grind (arith, later_number f i i s t g a b, later_number f i i t s g b a)

-- the moment of a number
pub record HasMoment (f : ℕ → ℕ) (i t : ℕ) : Type 0 where
  pub moment : ℕ
  pub by : moment ≤ t
  pub at : IsCountedAt f i moment

pub has_moment : (f : ℕ → ℕ) (i t : ℕ) → i < f t → HasMoment f i t
has_moment f i zero l = record { moment = 0; by = omega arith; at = record { not_before = omega arith; by_then = l } }
has_moment f i (suc t) l = elim (cases_lt i (f t)) [
  | inl less ↦ let h = has_moment f i t less in record { moment = h.moment; by = omega arith; at = h.at }
  | inr more ↦ record { moment = suc t; by = omega arith; at = record { not_before = more; by_then = l } }
]

-- of two who come one after the other, the first doesn't leave later
pub first_out : (c l : ℕ → ℕ) (i j s t u v : ℕ) → Grows c → Grows l → IsCountedAt c i s → IsCountedAt c j t → IsCountedAt l i u → IsCountedAt l j v → s < t → u ≤ v
first_out c l i j s t u v gc gl ci cj li lj h = grind (arith, later_number c i j s t gc ci cj h, later_number l j i v u gl lj li)

-- nobody leaves before coming, where by the moment of leaving no more have left than came
pub leaves_later : (c l : ℕ → ℕ) (i s u : ℕ) → Grows c → l u ≤ c u → IsCountedAt c i s → IsCountedAt l i u → s ≤ u
leaves_later c l i s u gc few ci li = grind (arith, grown_before c u s gc, few)
