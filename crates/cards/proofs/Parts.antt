-- People of some arcs one after another: each number is in one arc's part.
use Rattle.std.proofs.Common.{◌≡◌, ℕ, zero, suc, ◌+◌, ◌<◌, ◌≤◌, inl, inr, Bool, true, cond, ap, arith}
use Rattle.std.proofs.lemmas.Bool.{cases_Bool, cases_lt}
use Rattle.evac_law.proofs.SumLemmas.{sum_below-le, sum_below-none, sum_below-suc}
use Rattle.cards.specs.Numbers.{part}

pub part-suc : (q : ℕ → Bool) (w : ℕ → ℕ) (a : ℕ) → part q w (suc a) ≡ part q w a + cond (q a) (w a) 0
part-suc q w a = sum_below-suc (λ b. cond (q b) (w b) 0) a

-- a picked part ends before a later one begins
pub part_ends : (q : ℕ → Bool) (w : ℕ → ℕ) (a b : ℕ) → a < b → q a ≡ true → part q w a + w a ≤ part q w b
part_ends q w a b l e =
    let one : cond (q a) (w a) 0 ≡ w a = ap (λ z. cond z (w a) 0) e in
    omega (arith, part-suc q w a, one, sum_below-le (λ c. cond (q c) (w c) 0) (suc a) b (omega (arith, l)))

-- a number in two picked parts: they are one
pub one_part : (q : ℕ → Bool) (w : ℕ → ℕ) (a b o : ℕ) → q a ≡ true → q b ≡ true → part q w a ≤ o → o < part q w a + w a
    → part q w b ≤ o → o < part q w b + w b → a ≡ b
one_part q w a b o e f al ah bl bh =
    let less : a < b → part q w a + w a ≤ part q w b = λ l. part_ends q w a b l e in
    let more : b < a → part q w b + w b ≤ part q w a = λ l. part_ends q w b a l f in
    grind (arith, less, more, al, ah, bl, bh)

-- the part in which a number is
pub record HasPart (q : ℕ → Bool) (w : ℕ → ℕ) (n o : ℕ) : Type 0 where
  pub place : ℕ
  pub place_in : place < n
  pub picked : q place ≡ true
  pub from : part q w place ≤ o
  pub until : o < part q w place + w place

here_or : (q : ℕ → Bool) (w : ℕ → ℕ) (n o : ℕ) → o < part q w (suc n) → part q w n ≤ o → HasPart q w (suc n) o
here_or q w n o l h = elim (cases_Bool (q n)) [
  | inl e ↦ record {
    place = n;
    place_in = omega arith;
    picked = e;
    from = h;
    until = let one : cond (q n) (w n) 0 ≡ w n = ap (λ z. cond z (w n) 0) e in omega (arith, part-suc q w n, one, l);
  }
  | inr e ↦ absurd (let one : cond (q n) (w n) 0 ≡ 0 = ap (λ z. cond z (w n) 0) e in omega (arith, part-suc q w n, one, l, h))
]

pub has_part : (q : ℕ → Bool) (w : ℕ → ℕ) (n o : ℕ) → o < part q w n → HasPart q w n o
has_part q w zero o l = absurd (omega (arith, l, sum_below-none (λ b. cond (q b) (w b) 0)))
has_part q w (suc n) o l = elim (cases_lt o (part q w n)) [
  | inl less ↦
      let h = has_part q w n o less in
      record { place = h.place; place_in = omega (arith, h.place_in); picked = h.picked; from = h.from; until = h.until }
  | inr here ↦ here_or q w n o l here
]
