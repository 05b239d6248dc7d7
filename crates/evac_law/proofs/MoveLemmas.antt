-- The moves of a table of flows: what they add up to, and their order.
use Rattle.std.proofs.Common.{◌≡◌, ℕ, zero, suc, ◌+◌, ◌<◌, ◌≤◌, Bool, true, false, cond, ◌&&◌, eqb, List, [], ◌∷◌, ◌++◌, get_or, refl, ap, sym, subst, ◌∙◌, arith, inl, inr}
use Rattle.std.specs.List.{sum_by, flat_map, All, AllPairs}
use Rattle.std.proofs.lemmas.List.Elements.{All-append, All-weaker, All-head, All-tail}
use Rattle.std.proofs.lemmas.List.Kept.{AllPairs-cons}
use Rattle.std.proofs.lemmas.Bool.{cases_Bool, eqb-true, lt-ltb}
use Rattle.std.proofs.lemmas.Bool.Decides.{nat_tests}
use Rattle.evac_law.specs.declared.plan.Move.{Move}
use Rattle.evac_law.specs.Laws.{MovesAreTable}
use Rattle.evac_law.specs.Moves.{moves_of, move_of}
use Rattle.evac_law.specs.Plans.{moved}
use Rattle.evac_law.specs.Stands.{Before, IsOrdered}
use Rattle.evac_law.specs.Sums.{below, moments_to}
use Rattle.evac_law.proofs.PartLemmas.{flat_map-suc}
use Rattle.evac_law.proofs.SumLemmas.{sum2, sum_by-same, sum_by-flat_map, sum_by-exchange, sum_by-cond, sum_below-pick, All-below}

one_move : (f : ℕ → ℕ → ℕ) (b : ℕ → ℕ → Bool) (t a : ℕ)
    → sum_by (λ (v : Move). cond (b v.arc v.moment) v.people 0) (move_of f t a) ≡ cond (b a t) (f a t) 0
one_move f b t a = elim (cases_Bool (eqb (f a t) 0)) [
  | inl e ↦
      let none = eqb-true (f a t) 0 e in
      rw e (rw none (sym (nothing (b a t))))
  | inr e ↦ rw e (omega arith)
]
  where
    nothing : (b : Bool) → ◌≡◌ {A = ℕ} (cond b 0 0) 0
    nothing true = refl
    nothing false = refl

-- a sum over the moves of a table is the sum over the table
pub sum_moves : (n k : ℕ) (f : ℕ → ℕ → ℕ) (b : ℕ → ℕ → Bool)
    → sum_by (λ (v : Move). cond (b v.arc v.moment) v.people 0) (moves_of n k f) ≡ sum2 n (k + 1) (λ a t. cond (b a t) (f a t) 0)
unfolding moves_of
sum_moves n k f b =
    let w = λ (v : Move). cond (b v.arc v.moment) v.people 0 in
    sum_by-flat_map w (λ t. flat_map (λ a. move_of f t a) (below n)) (moments_to k)
    ∙ sum_by-same _ (λ t. sum_by (λ a. cond (b a t) (f a t) 0) (below n)) (moments_to k)
    (λ t. sum_by-flat_map w (λ a. move_of f t a) (below n) ∙ sum_by-same _ (λ a. cond (b a t) (f a t) 0) (below n) (λ a. one_move f b t a))
    ∙ sum_by-exchange (λ t a. cond (b a t) (f a t) 0) (moments_to k) (below n)

turned : (a i t j w : ℕ) → cond (eqb a i && eqb t j) w 0 ≡ cond (eqb i a) (cond (eqb j t) w 0) 0
turned a i t j w = grind (arith, nat_tests)

-- the term at one pair
pub sum2-at : (n k : ℕ) (f : ℕ → ℕ → ℕ) (i j : ℕ) → i < n → j < k → sum2 n k (λ a t. cond (eqb a i && eqb t j) (f a t) 0) ≡ f i j
sum2-at n k f i j l h =
    sum_by-same _ (λ a. cond (eqb i a) (sum_by (λ t. cond (eqb j t) (f a t) 0) (below k)) 0) (below n)
    (λ a. sum_by-same _ (λ t. cond (eqb i a) (cond (eqb j t) (f a t) 0) 0) (below k) (λ t. turned a i t j (f a t))
    ∙ sum_by-cond (eqb i a) (λ t. cond (eqb j t) (f a t) 0) (below k))
    ∙ sum_below-pick (λ a. sum_by (λ t. cond (eqb j t) (f a t) 0) (below k)) n i
    ∙ ap (λ b. cond b (sum_by (λ t. cond (eqb j t) (f i t) 0) (below k)) 0) (lt-ltb i n l)
    ∙ sum_below-pick (f i) k j
    ∙ ap (λ b. cond b (f i j) 0) (lt-ltb j k h)

pub moved-moves_of : (n k : ℕ) (f : ℕ → ℕ → ℕ) (a t : ℕ) → a < n → t ≤ k → moved (moves_of n k f) a t ≡ f a t
unfolding moved
moved-moves_of n k f a t i j = sum_moves n k f (λ x y. eqb x a && eqb y t) ∙ sum2-at n (k + 1) f a t i (omega arith)

pub All-flat_map_at : {X Y : Type 0} (P : Y → Type 0) (h : X → List Y) (xs : List X) → All (λ x. All P (h x)) xs → All P (flat_map h xs)
All-flat_map_at P h [] a = λ i d l. absurd (omega (arith, l))
All-flat_map_at P h (x ∷ xs) a =
    All-append P (h x) (flat_map h xs) (All-head (λ x. All P (h x)) x xs a)
    (All-flat_map_at P h xs (All-tail (λ x. All P (h x)) x xs a))

-- ---- the order of the moves

pairs_one : {X : Type 0} (R : X → X → Type 0) (b : Bool) (x : X) → AllPairs R (cond b [] (x ∷ []))
pairs_one R true x = λ i j d l h. absurd (omega (arith, h))
pairs_one R false x = λ i j d l h. absurd (omega (arith, l, h))

pub pairs-append : {X : Type 0} (R : X → X → Type 0) (xs ys : List X) → AllPairs R xs → AllPairs R ys → All (λ x. All (R x) ys) xs → AllPairs R (xs ++ ys)
pairs-append R [] ys p q c = q
pairs-append R (x ∷ xs) ys p q c =
    AllPairs-cons R x (xs ++ ys)
    (All-append (R x) xs ys (λ i d l. p 0 (suc i) d (omega arith) (omega (arith, l))) (All-head (λ x. All (R x) ys) x xs c))
    (pairs-append R xs ys (λ i j d l h. p (suc i) (suc j) d (omega (arith, l)) (omega (arith, h))) q (All-tail (λ x. All (R x) ys) x xs c))

-- lists that are in order, each before the next ones, are in order one after another
pub pairs-flat_map : {X : Type 0} (R : X → X → Type 0) (g : ℕ → List X) (n : ℕ) → ((i : ℕ) → i < n → AllPairs R (g i))
    → ((i j : ℕ) → i < j → j < n → All (λ x. All (R x) (g j)) (g i)) → AllPairs R (flat_map g (below n))
pairs-flat_map R g zero p c = λ i j d l h. absurd (omega (arith, h))
pairs-flat_map {X} R g (suc n) p c =
    let before : AllPairs R (flat_map g (below n)) = pairs-flat_map R g n (λ i l. p i (omega arith)) (λ i j l h. c i j l (omega arith)) in
    let cross : All (λ x. All (R x) (g n)) (flat_map g (below n)) =
    All-flat_map_at (λ x. All (R x) (g n)) g (below n) (All-below _ n (λ i l. c i n l (omega arith))) in
    subst (λ (l : List X). AllPairs R l) (sym (flat_map-suc g n)) (pairs-append R (flat_map g (below n)) (g n) before (p n (omega arith)) cross)

-- what holds of the one move of an arc at a moment
record IsMoveOf (f : ℕ → ℕ → ℕ) (t a : ℕ) (v : Move) : Type 0 where
  moment : v.moment ≡ t
  arc : v.arc ≡ a
  people : v.people ≡ f v.arc v.moment
  somebody : 0 < v.people

one_of : (f : ℕ → ℕ → ℕ) (t a : ℕ) → All (IsMoveOf f t a) (move_of f t a)
one_of f t a = elim (cases_Bool (eqb (f a t) 0)) [
  | inl e ↦ rw e (λ i d h. absurd (omega (arith, h)))
  | inr e ↦ rw e (λ i d h. only i d h e)
]
  where
    only : (i : ℕ) (d : Move) → i < 1 → eqb (f a t) 0 ≡ false → IsMoveOf f t a (get_or (record { moment = t; arc = a; people = f a t } ∷ []) i d)
    only zero d h e = record { moment = refl; arc = refl; people = refl; somebody = grind (arith, nat_tests) }
    only (suc i) d h e = absurd (omega (arith, h))

-- what holds of the moves of a moment
record IsMoveAt (f : ℕ → ℕ → ℕ) (n t : ℕ) (v : Move) : Type 0 where
  moment : v.moment ≡ t
  arc : v.arc < n
  people : v.people ≡ f v.arc v.moment
  somebody : 0 < v.people

row_of : (f : ℕ → ℕ → ℕ) (n t : ℕ) → All (IsMoveAt f n t) (flat_map (λ a. move_of f t a) (below n))
row_of f n t =
    All-flat_map_at (IsMoveAt f n t) (λ a. move_of f t a) (below n)
    (All-below _ n (λ a l. All-weaker (IsMoveOf f t a) (IsMoveAt f n t) (λ v h. record { moment = h.moment; arc = omega (arith, h.arc); people = h.people; somebody = h.somebody }) (move_of f t a) (one_of f t a)))

row_sorted : (f : ℕ → ℕ → ℕ) (n t : ℕ) → AllPairs Before (flat_map (λ a. move_of f t a) (below n))
row_sorted f n t =
    pairs-flat_map Before (λ a. move_of f t a) n (λ a l. pairs_one Before (eqb (f a t) 0) (record { moment = t; arc = a; people = f a t }))
    (λ a b l h. All-weaker (IsMoveOf f t a) (λ v. All (Before v) (move_of f t b))
    (λ v p. All-weaker (IsMoveOf f t b) (Before v) (λ w q. inr (p.moment ∙ sym q.moment, omega (arith, p.arc, q.arc))) (move_of f t b) (one_of f t b))
    (move_of f t a) (one_of f t a))

-- what holds of all moves
all_of : (P : Move → Type 0) (f : ℕ → ℕ → ℕ) (n k : ℕ) → ((t : ℕ) (v : Move) → t ≤ k → IsMoveAt f n t v → P v) → All P (moves_of n k f)
unfolding moves_of
all_of P f n k w =
    All-flat_map_at P (λ t. flat_map (λ a. move_of f t a) (below n)) (moments_to k)
    (All-below _ (k + 1) (λ t h. All-weaker (IsMoveAt f n t) P (λ v p. w t v (omega arith) p) (flat_map (λ a. move_of f t a) (below n)) (row_of f n t)))

pub sorted-moves_of : (f : ℕ → ℕ → ℕ) (n k : ℕ) → AllPairs Before (moves_of n k f)
unfolding moves_of
sorted-moves_of f n k =
    pairs-flat_map Before (λ t. flat_map (λ a. move_of f t a) (below n)) (k + 1) (λ t l. row_sorted f n t)
    (λ t s l h. All-weaker (IsMoveAt f n t) (λ v. All (Before v) (flat_map (λ a. move_of f s a) (below n)))
    (λ v p. All-weaker (IsMoveAt f n s) (Before v) (λ w q. inl (omega (arith, p.moment, q.moment))) (flat_map (λ a. move_of f s a) (below n)) (row_of f n s))
    (flat_map (λ a. move_of f t a) (below n)) (row_of f n t))

-- the moves name arcs of the table
pub arcs-moves_of : (n k : ℕ) (f : ℕ → ℕ → ℕ) → All (λ (v : Move). v.arc < n) (moves_of n k f)
arcs-moves_of n k f = all_of (λ (v : Move). v.arc < n) f n k (λ t v l p. p.arc)

pub ordered-moves_of : (n k : ℕ) (f : ℕ → ℕ → ℕ) → IsOrdered n k (moves_of n k f)
ordered-moves_of n k f = record {
  sorted = sorted-moves_of f n k;
  in_range = all_of (λ (v : Move). (v.arc < n) × (v.moment ≤ k)) f n k (λ t v l p. (p.arc, omega (arith, p.moment)));
  somebody = all_of (λ (v : Move). 0 < v.people) f n k (λ t v l p. p.somebody);
}

pub moves_are_table : (n k : ℕ) (f : ℕ → ℕ → ℕ) → MovesAreTable n k f
moves_are_table n k f = record { same = moved-moves_of n k f; ordered = ordered-moves_of n k f }
