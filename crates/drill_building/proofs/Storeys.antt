-- Rows of storeys, one storey after another.
use Rattle.std.proofs.Common.{◌≡◌, ◌≢◌, ℕ, zero, suc, ◌+◌, ◌-◌, ◌*◌, ◌<◌, ◌≤◌, List, [], ◌∷◌, ◌++◌, length, get_or, refl, sym, ap, subst, ◌∙◌, arith, append-nil, append_assoc, length-append}
use Rattle.std.specs.List.{All, flat_map, range_with_len, sum_by}
use Rattle.std.proofs.lemmas.List.Elements.{All-append, All-cons, All-nil}
use Rattle.std.proofs.lemmas.List.Sums.{sum_by-append}
use Rattle.drill_building.specs.Drill.{storeys}

-- ---- one storey more

more : {X : Type 0} (rows : ℕ → List X) (a n j : ℕ) → a + n ≡ j → flat_map rows (range_with_len a (suc n)) ≡ flat_map rows (range_with_len a n) ++ rows j
more rows a zero j e = append-nil (rows a) ∙ ap rows (let k : a ≡ j = omega (arith, e) in k)
more rows a (suc n) j e =
    ap (λ l. rows a ++ l) (more rows (a + 1) n j (omega (arith, e))) ∙ sym (append_assoc (rows a) (flat_map rows (range_with_len (a + 1) n)) (rows j))

-- the storeys before one, and that one
pub storeys-more : {X : Type 0} (rows : ℕ → List X) (f : ℕ) → 1 ≤ f → flat_map rows (storeys (f + 1 - 1)) ≡ flat_map rows (storeys (f - 1)) ++ rows f
storeys-more rows f h =
    let e : f + 1 - 1 ≡ suc (f - 1) = omega (arith, h) in
    ap (λ n. flat_map rows (storeys n)) e ∙ more rows 1 (f - 1) f (omega (arith, h))

-- ---- what holds of each row

pub all-four : {X : Type 0} (P : X → Type 0) (a b c d : X) → P a → P b → P c → P d → All P (a ∷ b ∷ c ∷ d ∷ [])
all-four P a b c d p q r s =
    All-cons P a (b ∷ c ∷ d ∷ []) p (All-cons P b (c ∷ d ∷ []) q (All-cons P c (d ∷ []) r (All-cons P d [] s (All-nil P))))

pub all-storeys : {X : Type 0} (P : X → Type 0) (rows : ℕ → List X) (a n : ℕ) → ((f : ℕ) → a ≤ f → f < a + n → All P (rows f)) → All P (flat_map rows (range_with_len a n))
all-storeys P rows a zero each = All-nil P
all-storeys P rows a (suc n) each =
    All-append P (rows a) (flat_map rows (range_with_len (a + 1) n)) (each a (omega arith) (omega arith))
    (all-storeys P rows (a + 1) n (λ f low high. each f (omega (arith, low)) (omega (arith, high))))

-- ---- sums

-- where each storey has at most so many, all have at most that for each storey
pub sum-storeys : {X : Type 0} (g : X → ℕ) (rows : ℕ → List X) (most : ℕ) → ((f : ℕ) → sum_by g (rows f) ≤ most) → (a n : ℕ)
    → sum_by g (flat_map rows (range_with_len a n)) ≤ n * most
sum-storeys g rows most each a zero = omega arith
sum-storeys g rows most each a (suc n) =
    let parts = sum_by-append g (rows a) (flat_map rows (range_with_len (a + 1) n)) in
    let first = each a in
    let rest = sum-storeys g rows most each (a + 1) n in
    let size : suc n * most ≡ n * most + most = omega arith in
    omega (arith, parts, first, rest, size)

pub length-storeys : {X : Type 0} (rows : ℕ → List X) (a n : ℕ) → ((f : ℕ) → length (rows f) ≡ 4) → length (flat_map rows (range_with_len a n)) ≡ 4 * n
length-storeys rows a zero each = refl
length-storeys rows a (suc n) each =
    let parts = length-append (rows a) (flat_map rows (range_with_len (a + 1) n)) in
    let rest = length-storeys rows (a + 1) n each in
    omega (arith, parts, rest, each a)

-- ---- places

-- each row's key is its place, where the first stands at place k
abbrev pub IsPlaced : {X : Type 0} → (X → ℕ) → ℕ → List X → Type 0
IsPlaced key k [] = Unit {0}
IsPlaced key k (x ∷ xs) = (key x ≡ k) × IsPlaced key (k + 1) xs

placed-from : {X : Type 0} (key : X → ℕ) (j k : ℕ) (xs : List X) → j ≡ k → IsPlaced key j xs → IsPlaced key k xs
placed-from key j k xs e h = subst (λ i. IsPlaced key i xs) e h

pub placed-append : {X : Type 0} (key : X → ℕ) (k : ℕ) (xs ys : List X) → IsPlaced key k xs → IsPlaced key (k + length xs) ys → IsPlaced key k (xs ++ ys)
placed-append key k [] ys h g = placed-from key (k + 0) k ys (omega arith) g
placed-append key k (x ∷ xs) ys h g =
    (h.0, placed-append key (k + 1) xs ys h.1 (placed-from key (k + length (x ∷ xs)) (k + 1 + length xs) ys (omega arith) g))

pub placed-at : {X : Type 0} (key : X → ℕ) (k : ℕ) (xs : List X) → IsPlaced key k xs → (i : ℕ) (d : X) → i < length xs → key (get_or xs i d) ≡ k + i
placed-at key k [] h i d l = absurd (omega (arith, l))
placed-at key k (x ∷ xs) h zero d l = h.0 ∙ (let e : k ≡ k + 0 = omega arith in e)
placed-at key k (x ∷ xs) h (suc i) d l =
    placed-at key (k + 1) xs h.1 i d (omega (arith, l)) ∙ (let e : k + 1 + i ≡ k + suc i = omega arith in e)

-- each storey has four rows, and those of storey 1 stand at place 4 - b
pub placed-storeys : {X : Type 0} (key : X → ℕ) (rows : ℕ → List X) (b : ℕ) → b ≤ 4 → ((f : ℕ) → length (rows f) ≡ 4)
    → ((f : ℕ) → 1 ≤ f → IsPlaced key (4 * f - b) (rows f)) → (a n : ℕ) → 1 ≤ a → IsPlaced key (4 * a - b) (flat_map rows (range_with_len a n))
placed-storeys key rows b few four each a zero low = tt
placed-storeys key rows b few four each a (suc n) low =
    placed-append key (4 * a - b) (rows a) (flat_map rows (range_with_len (a + 1) n)) (each a low)
    (placed-from key (4 * (a + 1) - b) (4 * a - b + length (rows a)) (flat_map rows (range_with_len (a + 1) n)) (let h = four a in omega (arith, h, few, low))
    (placed-storeys key rows b few four each (a + 1) n (omega arith)))

-- rows that stand at two places have different keys
pub keys-differ : {X : Type 0} (key : X → ℕ) (xs : List X) (d : X) → IsPlaced key 0 xs → (i j : ℕ) → i < j → j < length xs → key (get_or xs i d) ≢ key (get_or xs j d)
keys-differ key xs d h i j before within = λ e.
    let p = placed-at key 0 xs h i d (omega (arith, before, within)) in
    let q = placed-at key 0 xs h j d within in
    omega (arith, p, q, e, before)
