-- One place of a table with another item.
use Rattle.std.proofs.Common.{◌≡◌, ℕ, ◌+◌, ◌*◌, ◌<◌, ◌≤◌, ◌⊎◌, inl, inr, Bool, true, false, cond, ◌&&◌, eqb, leb, ltb, length, get_or, replicate, refl, ap, sym, ◌∙◌, arith, subst}
use Rattle.std.proofs.Math.ListN.{set}
use Rattle.std.proofs.lemmas.Bool.{and_left, and_right, cases_Bool, false≢true, le-ltb, lt-leb}
use Rattle.std.proofs.lemmas.Bool.Decides.{nat_tests}
use Rattle.std.proofs.lemmas.List.{get_or-replicate, get_or-set_other, get_or-set_same}
use Rattle.std.proofs.lemmas.Nat.{mul-add-lt, same_from_place}
use Rattle.tables.specs.Tables.{IsFull, IsPut, TableView, item_at}

row_in : (n i t k : ℕ) → (eqb n i && eqb t k) ≡ true → n ≡ i
row_in n i t k e = grind (arith, nat_tests)

moment_in : (n i t k : ℕ) → (eqb n i && eqb t k) ≡ true → t ≡ k
moment_in n i t k e = grind (arith, nat_tests)

apart : (n i t k : ℕ) → (eqb n i && eqb t k) ≡ false → n ≡ i → t ≡ k → ⊥
apart n i t k e f g = grind (arith, nat_tests)

within : (i r k w : ℕ) → i < r → k ≤ w → (ltb i r && leb k w) ≡ true
within i r k w e f = grind (arith, nat_tests)

inside : (i r k w : ℕ) → (ltb i r && leb k w) ≡ true → (i < r) × (k ≤ w)
inside i r k w e = (grind (arith, nat_tests), grind (arith, nat_tests))

pub place_below : {T : Type 0} (c : TableView T) (n t : ℕ) → IsFull c → n < c.rows → t ≤ c.last → n * (c.last + 1) + t < length c.items
place_below c n t full row moment = omega (arith, full, mul-add-lt n (c.last + 1) t c.rows row (omega arith))

module _ {T : Type 0} (d : T) (c : TableView T) (n t : ℕ) where
  abbrev at : Bool → T
  at b = cond b (get_or c.items (n * (c.last + 1) + t) d) d

  -- the item stands at its place
  pub item_at-within : n < c.rows → t ≤ c.last → item_at d c n t ≡ get_or c.items (n * (c.last + 1) + t) d
  unfolding item_at
  item_at-within row moment = ap at (within n c.rows t c.last row moment)

  -- past the last row or moment there is another one
  pub item_at-past_rows : c.rows ≤ n → item_at d c n t ≡ d
  unfolding item_at
  item_at-past_rows h = ap at (and_left (ltb n c.rows) (leb t c.last) (le-ltb n c.rows h))

  pub item_at-past_last : c.last < t → item_at d c n t ≡ d
  unfolding item_at
  item_at-past_last h = ap at (and_right (ltb n c.rows) (leb t c.last) (lt-leb t c.last h))

pub item_at-replicate : {T : Type 0} (d : T) (rows last n t : ℕ) → item_at d (record { rows = rows; last = last; items = replicate (rows * (last + 1)) d }) n t ≡ d
unfolding item_at
item_at-replicate d rows last n t = split (ltb n rows && leb t last) refl
  where
    split : (b : Bool) → (ltb n rows && leb t last) ≡ b → cond b (get_or (replicate (rows * (last + 1)) d) (n * (last + 1) + t) d) d ≡ d
    split true e = let h = inside n rows t last e in get_or-replicate (rows * (last + 1)) (n * (last + 1) + t) d d (omega (arith, mul-add-lt n (last + 1) t rows h.0 (omega (arith, h.1))))
    split false e = refl

module _ {T : Type 0} (c : TableView T) (n t : ℕ) (x : T) (full : IsFull c) (row : n < c.rows) (moment : t ≤ c.last) where
  abbrev w : ℕ
  w = c.last + 1

  abbrev set_at : T → ℕ → ℕ → T
  set_at d i k = get_or (set c.items (n * w + t) x) (i * w + k) d

  here : (d : T) (i k : ℕ) → n ≡ i → t ≡ k → set_at d i k ≡ x
  here d i k e f =
      subst (λ a. set_at d a k ≡ x) e (subst (λ b. set_at d n b ≡ x) f (get_or-set_same c.items (n * w + t) x d (place_below c n t full row moment)))

  there : (d : T) (i k : ℕ) → (n ≡ i → t ≡ k → ⊥) → k ≤ c.last → set_at d i k ≡ get_or c.items (i * w + k) d
  there d i k other l =
      get_or-set_other c.items (n * w + t) (i * w + k) x d
      (λ e. let both = same_from_place n t i k w (omega (arith, moment)) (omega (arith, l)) (sym e) in other both.0 both.1)

  -- a full table with another item at a place
  pub is_put : IsPut c (record c { items = set c.items (n * (c.last + 1) + t) x }) n t x
  unfolding item_at
  is_put = record {
    rows = refl;
    last = refl;
    items = λ d i k. split d i k (cases_Bool (eqb n i && eqb t k)) (ltb i c.rows && leb k c.last) refl;
  }
    where
      split : (d : T) (i k : ℕ) → ((eqb n i && eqb t k) ≡ true) ⊎ ((eqb n i && eqb t k) ≡ false) → (b : Bool) → (ltb i c.rows && leb k c.last) ≡ b
          → cond b (set_at d i k) d ≡ cond (eqb n i && eqb t k) x (cond b (get_or c.items (i * w + k) d) d)
      split d i k (inl e) true f = rw e (here d i k (row_in n i t k e) (moment_in n i t k e))
      split d i k (inl e) false f =
          absurd (false≢true (sym f ∙ within i c.rows k c.last (omega (arith, row_in n i t k e, row)) (omega (arith, moment_in n i t k e, moment))))
      split d i k (inr e) true f = rw e (there d i k (apart n i t k e) (inside i c.rows k c.last f).1)
      split d i k (inr e) false f = rw e refl
