-- Lists of parts, and lists that are told apart by their ends.
use Rattle.std.proofs.Common.{◌≡◌, ℕ, ◌+◌, ◌<◌, ◌≤◌, zero, suc, List, [], ◌∷◌, ◌++◌, length, map, refl, ap, ◌∙◌, arith, append-nil}
use Rattle.std.specs.List.{enumerate_from, flat_map}
use Rattle.std.proofs.lemmas.Bool.{cases_lt}
use Rattle.std.proofs.lemmas.Grind.{flat_map-append}
use Rattle.std.proofs.lemmas.List.{map-append}
use Rattle.evac_law.specs.Sums.{below}
use Rattle.evac_law.proofs.PartLemmas.{flat_map-same, flat_map-suc}
use Rattle.evac_law.proofs.SumLemmas.{All-below}

pub map-flat_map : {X Y Z : Type 0} (g : Y → Z) (h : X → List Y) (xs : List X) → map g (flat_map h xs) ≡ flat_map (λ x. map g (h x)) xs
map-flat_map g h [] = refl
map-flat_map g h (x ∷ xs) = map-append g (h x) (flat_map h xs) ∙ ap (λ l. map g (h x) ++ l) (map-flat_map g h xs)

pub flat_map-flat_map : {X Y Z : Type 0} (g : Y → List Z) (h : X → List Y) (xs : List X) → flat_map g (flat_map h xs) ≡ flat_map (λ x. flat_map g (h x)) xs
flat_map-flat_map g h [] = refl
flat_map-flat_map g h (x ∷ xs) = flat_map-append g (h x) (flat_map h xs) ∙ ap (λ l. flat_map g (h x) ++ l) (flat_map-flat_map g h xs)

-- the same parts
pub below-same : {X : Type 0} (f g : ℕ → List X) (n : ℕ) → ((i : ℕ) → i < n → f i ≡ g i) → flat_map f (below n) ≡ flat_map g (below n)
below-same f g n h = flat_map-same f g (below n) (All-below (λ i. f i ≡ g i) n h)

stop-by : {X : Type 0} (g : ℕ → List X) (a n : ℕ) → ((i : ℕ) → a ≤ i → i < suc n → g i ≡ []) → (a ≤ n → flat_map g (below n) ≡ flat_map g (below a)) → a ≤ suc n
    → flat_map g (below (suc n)) ≡ flat_map g (below a)
stop-by g a n none before l = grind (arith, cases_lt, flat_map-suc, append-nil)

-- parts that are empty from a place on
pub below-stop : {X : Type 0} (g : ℕ → List X) (a n : ℕ) → a ≤ n → ((i : ℕ) → a ≤ i → i < n → g i ≡ []) → flat_map g (below n) ≡ flat_map g (below a)
below-stop g a zero l none = let e : 0 ≡ a = omega arith in ap (λ k. flat_map g (below k)) e
below-stop g a (suc n) l none = stop-by g a n none (λ k. below-stop g a n k (λ i b c. none i b (omega arith))) l

pub enumerate-push : {X : Type 0} (n : ℕ) (xs : List X) (x : X) → enumerate_from n (xs ++ (x ∷ [])) ≡ enumerate_from n xs ++ ((n + length xs, x) ∷ [])
enumerate-push n [] x = let e : n ≡ n + 0 = omega arith in ap (λ k. (k, x) ∷ []) e
enumerate-push n (y ∷ ys) x =
    let e : n + 1 + length ys ≡ n + length (y ∷ ys) = omega arith in
    ap (λ l. (n, y) ∷ l) (enumerate-push (n + 1) ys x ∙ ap (λ k. enumerate_from (n + 1) ys ++ ((k, x) ∷ [])) e)
