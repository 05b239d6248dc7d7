-- Parts joined over the numbers below n: one part more, and the parts after one.
use Rattle.std.proofs.Common.{◌≡◌, ℕ, zero, suc, ◌+◌, ◌<◌, ◌≤◌, Bool, true, false, ◌||◌, List, [], ◌∷◌, ◌++◌, refl, ap, sym, ◌∙◌, ◌⊎◌, inl, inr, arith, append_assoc, append-nil, add-one}
use Rattle.std.specs.List.{All, flat_map, list_any}
use Rattle.std.proofs.lemmas.Bool.{cases_lt}
use Rattle.std.proofs.lemmas.Grind.{flat_map-append}
use Rattle.std.proofs.lemmas.List.Folds.{list_any-append}
use Rattle.evac_law.specs.Sums.{below}
use Rattle.evac_law.proofs.SumLemmas.{below-suc}

pub flat_map-suc : {X : Type 0} (g : ℕ → List X) (n : ℕ) → flat_map g (below (suc n)) ≡ flat_map g (below n) ++ g n
flat_map-suc g n =
    ap (flat_map g) (below-suc n) ∙ flat_map-append g (below n) (n ∷ []) ∙ ap (λ l. flat_map g (below n) ++ l) (append-nil (g n))

pub flat_map-more : {X : Type 0} (g : ℕ → List X) (n : ℕ) → flat_map g (below (n + 1)) ≡ flat_map g (below n) ++ g n
flat_map-more g n = ap (λ i. flat_map g (below i)) (add-one n) ∙ flat_map-suc g n

pub flat_map-none : {X : Type 0} (g : ℕ → List X) → flat_map g (below 0) ≡ []
flat_map-none g = refl

pub ruleset parts_more = (flat_map-more, flat_map-none, append_assoc, append-nil)

pub flat_map-same : {X Y : Type 0} (f g : X → List Y) (xs : List X) → All (λ x. f x ≡ g x) xs → flat_map f xs ≡ flat_map g xs
flat_map-same f g [] h = refl
flat_map-same f g (x ∷ xs) h =
    ap (λ l. l ++ flat_map f xs) (h 0 x (omega arith)) ∙ ap (λ l. g x ++ l) (flat_map-same f g xs (λ i d l. h (suc i) d (omega (arith, l))))

pub or_false : (b : Bool) → (b || false) ≡ b
or_false true = refl
or_false false = refl

pub any-below : (p : ℕ → Bool) (n : ℕ) → list_any p (below (suc n)) ≡ (list_any p (below n) || p n)
any-below p n = ap (list_any p) (below-suc n) ∙ list_any-append p (below n) (n ∷ []) ∙ ap (λ b. list_any p (below n) || b) (or_false (p n))

-- the parts before one, that part, and the rest
pub record Rest {X : Type 0} (g : ℕ → List X) (i n : ℕ) : Type 0 where
  pub behind : List X
  pub whole : flat_map g (below n) ≡ (flat_map g (below i) ++ g i) ++ behind

rest_more : {X : Type 0} (g : ℕ → List X) (i n : ℕ) → i < suc n → (i < n → Rest g i n) → Rest g i (suc n)
rest_more {X} g i n l before = split (cases_lt i n)
  where
    longer : Rest g i n → Rest g i (suc n)
    longer r = record {
      behind = r.behind ++ g n;
      whole = flat_map-suc g n ∙ ap (λ z. z ++ g n) r.whole ∙ append_assoc (flat_map g (below i) ++ g i) r.behind (g n);
    }

    split : (i < n) ⊎ (n ≤ i) → Rest g i (suc n)
    split (inl less) = longer (before less)
    split (inr last) =
        let same : i ≡ n = omega arith in
        record { behind = []; whole = flat_map-suc g n ∙ ap (λ j. flat_map g (below j) ++ g j) (sym same) ∙ sym (append-nil (flat_map g (below i) ++ g i)) }

pub rest_of : {X : Type 0} (g : ℕ → List X) (i n : ℕ) → i < n → Rest g i n
rest_of g i zero l = absurd (omega (arith, l))
rest_of g i (suc n) l = rest_more g i n l (λ less. rest_of g i n less)
