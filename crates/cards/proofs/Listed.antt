-- The arcs at a node as they are listed, and sums over them.
use Rattle.std.proofs.Common.{◌≡◌, ℕ, zero, suc, ◌+◌, ◌<◌, ◌≤◌, ◌⊎◌, inl, inr, Bool, true, false, cond, ltb, List, [], ◌∷◌, ◌++◌, length, get_or, take, refl, ap, sym, ◌∙◌, arith, subst}
use Rattle.std.specs.List.{All, sum_by, filter}
use Rattle.std.proofs.lemmas.Bool.{cases_lt}
use Rattle.std.proofs.lemmas.Bool.Decides.{nat_tests}
use Rattle.std.proofs.lemmas.Grind.{common_steps}
use Rattle.std.proofs.lemmas.List.{get_or-map, get_or_append_left, get_or_past, get_or_push, length-append, length-map, take-append-le}
use Rattle.std.proofs.lemmas.List.Elements.{filter-append, filter_agree}
use Rattle.std.proofs.lemmas.List.Sums.{sum_by-append, sum_by-cons}
use Rattle.evac_law.specs.declared.model.Model.{Model}
use Rattle.evac_law.specs.declared.plan.Move.{Move}
use Rattle.evac_law.specs.Building.{head, no_arc}
use Rattle.evac_law.specs.Plans.{came, coming, leaving, left}
use Rattle.evac_law.specs.Sums.{below}
use Rattle.evac_law.proofs.SumLemmas.{All-below, below-suc, sum_below-none, sum_by-same_all}
use Rattle.plan_layout.specs.Layouts.{ends_of, shape_of}
use Rattle.plan_layout.proofs.ShapeLemmas.{listed_arc}
use Rattle.time_expansion.specs.Expansion.{arcs_from, arcs_to, no_ends}
use Rattle.cards.specs.Numbers.{brought, comers_before, count_before, leavers_before, part}
use Rattle.cards.proofs.Numbers.{comes_at, coming_is, enters_at, from_node, leaving_is, to_node}
use Rattle.cards.proofs.Parts.{part-suc}

-- ---- the numbers below one that a test picks

abbrev pub picked : (ℕ → Bool) → ℕ → List ℕ
picked q n = filter q (below n)

picked-suc : (q : ℕ → Bool) (n : ℕ) → picked q (suc n) ≡ picked q n ++ cond (q n) (n ∷ []) []
picked-suc q n = ap (filter q) (below-suc n) ∙ filter-append q (below n) (n ∷ [])

sum_one : (b : Bool) (w : ℕ → ℕ) (n : ℕ) → sum_by w (cond b (n ∷ []) []) ≡ cond b (w n) 0
sum_one true w n = omega (arith, sum_by-cons w n [])
sum_one false w n = refl

pub sum_picked : (q : ℕ → Bool) (w : ℕ → ℕ) (n : ℕ) → sum_by w (picked q n) ≡ part q w n
sum_picked q w zero = sym (sum_below-none (λ b. cond (q b) (w b) 0))
sum_picked q w (suc n) =
    omega (
      arith,
      ap (sum_by w) (picked-suc q n),
      sum_by-append w (picked q n) (cond (q n) (n ∷ []) []),
      sum_one (q n) w n,
      sum_picked q w n,
      part-suc q w n,
    )

-- those that stand before one of them are those below it
IsFront : (ℕ → Bool) → ℕ → List ℕ → Type 0
IsFront q k xs = take k xs ≡ picked q (get_or xs k 0)

all_front : (xs ys : List ℕ) (k : ℕ) → k ≡ length xs → take k (xs ++ ys) ≡ xs
all_front xs ys k e = grind (arith, common_steps)

front_on : (q : ℕ → Bool) (n k : ℕ) (xs : List ℕ) (b : Bool) → xs ≡ picked q n → (k < length xs → IsFront q k xs) → k < length (xs ++ cond b (n ∷ []) [])
    → (k < length xs) ⊎ (length xs ≤ k) → IsFront q k (xs ++ cond b (n ∷ []) [])
unfolding IsFront
front_on q n k xs b e old l (inl less) = grind (arith, take-append-le, get_or_append_left)
front_on q n k xs true e old l (inr h) = grind (arith, length-append, all_front, get_or_push)
front_on q n k xs false e old l (inr h) = absurd (omega (arith, h, l, length-append xs []))

pub picked_front : (q : ℕ → Bool) (n k : ℕ) → k < length (picked q n) → take k (picked q n) ≡ picked q (get_or (picked q n) k 0)
unfolding IsFront
picked_front q zero k l = absurd (omega (arith, l))
picked_front q (suc n) k l =
    subst (IsFront q k) (sym (picked-suc q n))
    (front_on q n k (picked q n) (q n) refl (picked_front q n k) (omega (arith, l, ap length (picked-suc q n))) (cases_lt k (length (picked q n))))

-- of a sum over the picked numbers below n, those below a
pub part_to : (q : ℕ → Bool) (w : ℕ → ℕ) (a n : ℕ) → a ≤ n → part q (λ b. cond (ltb b a) (w b) 0) n ≡ part q w a
part_to q w a zero l = grind (arith, sum_below-none)
part_to q w a (suc n) l = elim (cases_lt n a) [
  | inl less ↦
      let same : suc n ≡ a = omega arith in
      sum_by-same_all _ _ (below (suc n)) (All-below _ (suc n) (λ b i. within (q b) b (w b) (omega (arith, i, same)))) ∙ ap (part q w) same
  | inr more ↦ omega (arith, part-suc q (λ b. cond (ltb b a) (w b) 0) n, past (q n) n (w n) more, part_to q w a n more)
]
  where
    within : (b : Bool) (i x : ℕ) → i < a → cond b (cond (ltb i a) x 0) 0 ≡ cond b x 0
    within b i x l = grind (arith, nat_tests)

    past : (b : Bool) (i x : ℕ) → a ≤ i → cond b (cond (ltb i a) x 0) 0 ≡ 0
    past b i x l = grind (arith, nat_tests)

-- ---- the arcs at a node

module _ (m : Model) where
  end_is : (a : ℕ) → get_or (shape_of m).ends a no_ends ≡ ends_of (get_or m.arcs a no_arc)
  end_is a = grind (arith, cases_lt, get_or-map, get_or_past, length-map)

  pub listed_from : (n : ℕ) → arcs_from (shape_of m) n ≡ picked (from_node m n) (length m.arcs)
  unfolding arcs_from
  listed_from n = grind (arith, filter_agree, from_node, end_is, length-map)

  pub listed_to : (n : ℕ) → arcs_to (shape_of m) n ≡ picked (to_node m n) (length m.arcs)
  unfolding arcs_to
  listed_to n = grind (arith, filter_agree, to_node, end_is, length-map)

  module _ (p : List Move) where
    -- ---- who leaves a node and who comes to it, over the listed arcs

    module _ (arcs : All (λ (v : Move). v.arc < length m.arcs) p) where
      pub leaving_listed : (n t : ℕ) → leaving m p n t ≡ sum_by (enters_at p t) (arcs_from (shape_of m) n)
      leaving_listed n t =
          leaving_is m p arcs n t ∙ sym (sum_picked (from_node m n) (enters_at p t) (length m.arcs)) ∙ ap (sum_by (enters_at p t)) (sym (listed_from n))

      pub coming_listed : (n t : ℕ) → coming m p n t ≡ sum_by (comes_at m p t) (arcs_to (shape_of m) n)
      coming_listed n t =
          coming_is m p arcs n t ∙ sym (sum_picked (to_node m n) (comes_at m p t) (length m.arcs)) ∙ ap (sum_by (comes_at m p t)) (sym (listed_to n))

    -- ---- and who does so before

    pub listed_leavers : (n t k : ℕ) → k < length (arcs_from (shape_of m) n)
        → leavers_before m p (get_or (arcs_from (shape_of m) n) k 0) t
        ≡ count_before (left m p n) t + sum_by (enters_at p t) (take k (arcs_from (shape_of m) n))
    unfolding leavers_before
    listed_leavers n t k l =
        let xs = arcs_from (shape_of m) n in
        let a = get_or xs k 0 in
        let front : take k xs ≡ picked (from_node m n) a =
        subst (λ (ys : List ℕ). take k ys ≡ picked (from_node m n) (get_or ys k 0)) (sym (listed_from n))
        (picked_front (from_node m n) (length m.arcs) k (omega (arith, l, ap length (listed_from n)))) in
        ap (λ x. count_before (left m p x) t + part (from_node m x) (enters_at p t) a) (listed_arc m n k l).1
        ∙ ap (λ z. count_before (left m p n) t + z) (sym (ap (sum_by (enters_at p t)) front ∙ sum_picked (from_node m n) (enters_at p t) a))

    pub listed_comers : (n t a : ℕ) → a < length m.arcs → head m a ≡ n
        → comers_before m p a t ≡ count_before (came m p n) t + sum_by (λ b. cond (ltb b a) (brought m p b t) 0) (arcs_to (shape_of m) n)
    unfolding comers_before
    listed_comers n t a l e =
        let w : ℕ → ℕ = λ b. cond (ltb b a) (brought m p b t) 0 in
        let sum : sum_by w (arcs_to (shape_of m) n) ≡ part (to_node m n) (comes_at m p t) a =
        ap (sum_by w) (listed_to n) ∙ sum_picked (to_node m n) w (length m.arcs) ∙ part_to (to_node m n) (comes_at m p t) a (length m.arcs) (omega (arith, l)) in
        ap (λ x. count_before (came m p x) t + part (to_node m x) (comes_at m p t) a) e ∙ ap (λ z. count_before (came m p n) t + z) (sym sum)
