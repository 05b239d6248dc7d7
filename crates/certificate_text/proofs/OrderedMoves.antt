-- Moves in order are those of their table.
use Rattle.std.proofs.Common.{◌≡◌, ℕ, ◌+◌, ◌<◌, ◌≤◌, ◌⊎◌, suc, zero, ◌&&◌, cond, nat_eq, List, [], ◌∷◌, get_or, refl, sym, ap, ap₂, subst, ◌∙◌, inl, inr, arith}
use Rattle.std.specs.List.{All, AllPairs, flat_map}
use Rattle.std.proofs.lemmas.Bool.{and_from, and_left, and_right, cases_eq, cases_lt, cases_order, eq-eqb, ne_eqb}
use Rattle.std.proofs.lemmas.List.Elements.{All-head, All-tail, All-nil, All-append}
use Rattle.std.proofs.lemmas.List.Sums.{sum_by-cons}
use Rattle.evac_law.specs.declared.plan.Move.{Move}
use Rattle.evac_law.specs.Moves.{moves_of}
use Rattle.evac_law.specs.Plans.{moved}
use Rattle.evac_law.specs.Stands.{Before, IsOrdered}
use Rattle.evac_law.specs.Sums.{below}
use Rattle.evac_law.proofs.MoveLemmas.{moved-moves_of, ordered-moves_of}
use Rattle.evac_law.proofs.PartLemmas.{flat_map-none, flat_map-suc}

-- what holds of each part holds of all
pub all-below : {X : Type 0} (P : X → Type 0) (g : ℕ → List X) (n : ℕ) → ((i : ℕ) → i < n → All P (g i)) → All P (flat_map g (below n))
all-below {X} P g zero h = subst (λ (x : List X). All P x) (sym (flat_map-none g)) (All-nil P)
all-below {X} P g (suc n) h =
    subst (λ (x : List X). All P x) (sym (flat_map-suc g n)) (All-append P (flat_map g (below n)) (g n) (all-below P g n (λ i l. h i (omega arith))) (h n (omega arith)))

-- ---- ordered lists by head and tail

abbrev here : Move → ℕ → ℕ → ℕ
here v a t = cond (nat_eq v.arc a && nat_eq v.moment t) v.people 0

moved-cons : (v : Move) (p : List Move) (a t : ℕ) → moved (v ∷ p) a t ≡ here v a t + moved p a t
unfolding moved
moved-cons v p a t = sum_by-cons (λ (x : Move). cond (nat_eq x.arc a && nat_eq x.moment t) x.people 0) v p

moved-nil : (a t : ℕ) → moved [] a t ≡ 0
unfolding moved
moved-nil a t = refl

here-own : (v : Move) → here v v.arc v.moment ≡ v.people
here-own v = ap (λ b. cond b v.people 0) (and_from (nat_eq v.arc v.arc) (nat_eq v.moment v.moment) (eq-eqb v.arc v.arc refl) (eq-eqb v.moment v.moment refl))

here-later : (v w : Move) → Before v w → here w v.arc v.moment ≡ 0
here-later v w (inl l) = ap (λ b. cond b w.people 0) (and_right (nat_eq w.arc v.arc) (nat_eq w.moment v.moment) (ne_eqb w.moment v.moment (λ e. omega (arith, e, l))))
here-later v w (inr l) = ap (λ b. cond b w.people 0) (and_left (nat_eq w.arc v.arc) (nat_eq w.moment v.moment) (ne_eqb w.arc v.arc (λ e. omega (arith, e, l.1))))

-- nobody enters later moves' arcs where an earlier one does
later-none : (v : Move) (p : List Move) → All (Before v) p → moved p v.arc v.moment ≡ 0
later-none v [] h = moved-nil v.arc v.moment
later-none v (w ∷ p) h =
    let a = here-later v w (All-head (Before v) w p h) in
    let b = later-none v p (All-tail (Before v) w p h) in
    let c = moved-cons w p v.arc v.moment in omega (arith, a, b, c)

pub record InOrder (p : List Move) : Type 0 where
  pub sorted : AllPairs Before p
  pub somebody : All (λ v. 0 < v.people) p

head-before : (v : Move) (p : List Move) → InOrder (v ∷ p) → All (Before v) p
head-before v p h = λ k d l. h.sorted 0 (suc k) d (omega arith) (omega (arith, l))

tail-order : (v : Move) (p : List Move) → InOrder (v ∷ p) → InOrder p
tail-order v p h = record {
  sorted = λ i j d a b. h.sorted (suc i) (suc j) d (omega (arith, a)) (omega (arith, b));
  somebody = All-tail (λ (x : Move). 0 < x.people) v p h.somebody;
}

head-some : (v : Move) (p : List Move) → InOrder (v ∷ p) → 0 < v.people
head-some v p h = All-head (λ (x : Move). 0 < x.people) v p h.somebody

-- the number that enter at the place of the head
head-moved : (v : Move) (p : List Move) → InOrder (v ∷ p) → moved (v ∷ p) v.arc v.moment ≡ v.people
head-moved v p h =
    let a = here-own v in let b = later-none v p (head-before v p h) in let c = moved-cons v p v.arc v.moment in omega (arith, a, b, c)

pub before-trans : (a b c : Move) → Before a b → Before b c → Before a c
before-trans a b c (inl x) (inl y) = inl (omega (arith, x, y))
before-trans a b c (inl x) (inr y) = inl (omega (arith, x, y.0))
before-trans a b c (inr x) (inl y) = inl (omega (arith, x.0, y))
before-trans a b c (inr x) (inr y) = inr (x.0 ∙ y.0, omega (arith, x.1, y.1))

all-after : (v w : Move) (q : List Move) → Before v w → All (Before w) q → All (Before v) (w ∷ q)
all-after v w q b h zero d l = b
all-after v w q b h (suc k) d l = before-trans v w (get_or q k d) b (h k d (omega (arith, l)))

-- the head of one list isn't before the head of the other, where the tables are the same
not-before : (v w : Move) (p q : List Move) → InOrder (v ∷ p) → InOrder (w ∷ q) → ((a t : ℕ) → moved (v ∷ p) a t ≡ moved (w ∷ q) a t) → Before v w → ⊥
not-before v w p q h g same b =
    let x = head-moved v p h in
    let y = later-none v (w ∷ q) (all-after v w q b (head-before w q g)) in
    let z = same v.arc v.moment in
    let s = head-some v p h in omega (arith, x, y, z, s)

same-place : (v w : Move) → (Before v w → ⊥) → (Before w v → ⊥) → (v.moment ≡ w.moment) × (v.arc ≡ w.arc)
same-place v w n k = grind (arith, cases_order)

make : ℕ → ℕ → ℕ → Move
make t a n = record { moment = t; arc = a; people = n }

same-head : (v w : Move) (p q : List Move) → InOrder (v ∷ p) → InOrder (w ∷ q) → ((a t : ℕ) → moved (v ∷ p) a t ≡ moved (w ∷ q) a t) → v ≡ w
unfolding make
same-head v w p q h g same =
    let e = same-place v w (not-before v w p q h g same) (not-before w v q p g h (λ a t. sym (same a t))) in
    let x = head-moved v p h in
    let y = head-moved w q g in
    let z = same v.arc v.moment in
    let k : moved (w ∷ q) v.arc v.moment ≡ moved (w ∷ q) w.arc w.moment = ap₂ (λ a t. moved (w ∷ q) a t) e.1 e.0 in
    let n : v.people ≡ w.people = omega (arith, x, y, z, k) in
    ap₂ (λ f n. f n) (ap₂ make e.0 e.1) n

pub same-moves : (p q : List Move) → InOrder p → InOrder q → ((a t : ℕ) → moved p a t ≡ moved q a t) → p ≡ q
same-moves [] [] h g same = refl
same-moves [] (w ∷ q) h g same =
    let x = same w.arc w.moment in let y = head-moved w q g in let s = head-some w q g in let n = moved-nil w.arc w.moment in absurd (omega (arith, x, y, s, n))
same-moves (v ∷ p) [] h g same =
    let x = same v.arc v.moment in let y = head-moved v p h in let s = head-some v p h in let n = moved-nil v.arc v.moment in absurd (omega (arith, x, y, s, n))
same-moves (v ∷ p) (w ∷ q) h g same =
    let e = same-head v w p q h g same in
    ap₂ (λ x xs. x ∷ xs) e (same-moves p q (tail-order v p h) (tail-order w q g) (λ a t.
    let x = same a t in let y = moved-cons v p a t in let z = moved-cons w q a t in let f = ap (λ (u : Move). here u a t) e in omega (arith, x, y, z, f)))

here-far : (v : Move) (a t : ℕ) → (v.arc ≡ a → v.moment ≡ t → ⊥) → here v a t ≡ 0
here-far v a t h = grind (arith, cases_eq, and_left, ne_eqb, and_right)

-- nobody enters an arc or at a moment that no move has
pub none-moved : (arcs horizon : ℕ) (p : List Move) (a t : ℕ) → All (λ (v : Move). (v.arc < arcs) × (v.moment ≤ horizon)) p → (a < arcs → t ≤ horizon → ⊥) → moved p a t ≡ 0
none-moved arcs horizon [] a t h far = moved-nil a t
none-moved arcs horizon (v ∷ p) a t h far =
    let P : Move → Type 0 = λ v. (v.arc < arcs) × (v.moment ≤ horizon) in
    let in_range = All-head P v p h in
    let more = none-moved arcs horizon p a t (All-tail P v p h) far in
    let c = moved-cons v p a t in
    let off = here-far v a t (λ e f. far (omega (arith, e, in_range.0)) (omega (arith, f, in_range.1))) in
    omega (arith, more, c, off)

far-by : (arcs horizon a t : ℕ) → (a < arcs) ⊎ (arcs ≤ a) → (t < horizon + 1) ⊎ (horizon + 1 ≤ t) → ((a < arcs) × (t ≤ horizon)) ⊎ (a < arcs → t ≤ horizon → ⊥)
far-by arcs horizon a t (inl l) (inl k) = inl (l, omega (arith, k))
far-by arcs horizon a t (inl l) (inr k) = inr (λ x y. omega (arith, k, y))
far-by arcs horizon a t (inr l) k = inr (λ x y. omega (arith, l, x))

-- moves in order are those of the table of what they say
pub ordered-table : (arcs horizon : ℕ) (p : List Move) → IsOrdered arcs horizon p → p ≡ moves_of arcs horizon (moved p)
ordered-table arcs horizon p h =
    let made = ordered-moves_of arcs horizon (moved p) in
    same-moves p (moves_of arcs horizon (moved p)) (record { sorted = h.sorted; somebody = h.somebody }) (record { sorted = made.sorted; somebody = made.somebody })
    (λ a t. elim (far-by arcs horizon a t (cases_lt a arcs) (cases_lt t (horizon + 1))) [
      | inl w ↦ sym (moved-moves_of arcs horizon (moved p) a t w.0 w.1)
      | inr f ↦ none-moved arcs horizon p a t h.in_range f ∙ sym (none-moved arcs horizon (moves_of arcs horizon (moved p)) a t made.in_range f)
    ])
