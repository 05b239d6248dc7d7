-- Which places are those of exits.
use Rattle.std.proofs.Common.{◌≡◌, ℕ, ◌+◌, ◌<◌, ◌≤◌, Bool, true, false, ◌||◌, nat_lt, length, refl, ap, ◌∙◌, inl, inr, arith}
use Rattle.std.specs.List.{list_all}
use Rattle.std.proofs.lemmas.Bool.{cases_Bool, le-ltb, ltb-false}
use Rattle.std.proofs.lemmas.List.Folds.{list_all_at}
use Rattle.std.proofs.lemmas.List.FromFn.{get_or-range_with_len, length-range_with_len}
use Rattle.std.proofs.lemmas.List.Sums.{list_all-from_AllPass}
use Rattle.evac_law.specs.declared.model.Model.{Model}
use Rattle.evac_law.specs.Building.{is_exit_at}
use Rattle.evac_law.specs.Sums.{below}
use Rattle.evac_law.proofs.SumLemmas.{All-below}
use Rattle.block_reader.specs.Drafts.{only_exits}

all-below : (p : ℕ → Bool) (n : ℕ) → ((i : ℕ) → i < n → p i ≡ true) → list_all p (below n) ≡ true
all-below p n h = list_all-from_AllPass p (below n) (All-below _ n h)

not-below : (p : ℕ → Bool) (n i : ℕ) → i < n → p i ≡ false → list_all p (below n) ≡ false
not-below p n i l h =
    let within : i < length (below n) = omega (arith, length-range_with_len 0 n, l) in
    list_all_at p (below n) i 0 within (ap p (get_or-range_with_len 0 n i 0 l ∙ (let e : 0 + i ≡ i = omega arith in e)) ∙ h)

either : (m : Model) (a i : ℕ) (t : Bool) → nat_lt i a ≡ t → (a ≤ i → is_exit_at m i ≡ true) → (t || is_exit_at m i) ≡ true
either m a i true e h = refl
either m a i false e h = h (ltb-false i a e)

neither : (m : Model) (a i : ℕ) → a ≤ i → is_exit_at m i ≡ false → (nat_lt i a || is_exit_at m i) ≡ false
neither m a i l e = ap (λ t. t || is_exit_at m i) (le-ltb i a l) ∙ e

pub exits-from : (m : Model) (a b : ℕ) → ((i : ℕ) → i < b → a ≤ i → is_exit_at m i ≡ true) → only_exits m a b ≡ true
unfolding only_exits
exits-from m a b h = all-below (λ n. nat_lt n a || is_exit_at m n) b (λ i l. either m a i (nat_lt i a) refl (h i l))

pub exits-not : (m : Model) (a b i : ℕ) → a ≤ i → i < b → is_exit_at m i ≡ false → only_exits m a b ≡ false
unfolding only_exits
exits-not m a b i l g e = not-below (λ n. nat_lt n a || is_exit_at m n) b i g (neither m a i l e)

pub exits-at : (m : Model) (a b i : ℕ) → only_exits m a b ≡ true → a ≤ i → i < b → is_exit_at m i ≡ true
exits-at m a b i h l g = elim (cases_Bool (is_exit_at m i)) [ inl e ↦ e | inr e ↦ let f = exits-not m a b i l g e in cc ]
