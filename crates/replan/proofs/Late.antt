-- In a plan of what is left nobody moves before it begins.
use Rattle.std.proofs.Common.{◌≡◌, ℕ, zero, suc, ◌+◌, ◌<◌, ◌≤◌, Bool, cond, ◌&&◌, eqb, leb, List, length, get_or, ◌∙◌, inl, inr, arith, IsFalse}
use Rattle.std.proofs.lemmas.List.Sums.{get_or-le-sum_by}
use Rattle.std.proofs.lemmas.Bool.{cases_lt}
use Rattle.std.proofs.lemmas.Bool.Decides.{nat_tests}
use Rattle.evac_law.specs.declared.model.Model.{Model}
use Rattle.evac_law.specs.declared.plan.Move.{Move}
use Rattle.evac_law.specs.Building.{IsValid, arc_at, capacity, entry, head, is_exit_at, tail}
use Rattle.evac_law.specs.Plans.{IsFeasible, left}
use Rattle.evac_law.proofs.SumLemmas.{sum_by-nothing, sum_by-same_all}
use Rattle.evac_law.proofs.ValidLemmas.{arc_is, tail_in}
use Rattle.evac_law.proofs.WeakDuality.{within}
use Rattle.replan.proofs.Parted.{IsLate, arrived, arrived_not_yet, came_is}
use Rattle.replan.proofs.Shifted.{nothing_to, slow}

one_term : (n x t w : ℕ) → x ≤ t → cond (eqb n n && leb x t) w 0 ≡ w
one_term n x t w h = grind (arith, nat_tests)

nobody_there : (b : Bool) (x d t w : ℕ) → 1 ≤ d → (x ≤ t → w ≡ 0) → cond (b && leb (x + d) (suc t)) w 0 ≡ 0
nobody_there b x d t w h none = elim (cases_lt t x) [
  | inl late ↦ grind (arith, nat_tests)
  | inr soon ↦ let zero_people = none soon in grind (arith, nat_tests)
]

module _ (m : Model) (r : List Move) (s : ℕ) (valid : IsValid m) (feasible : (k : ℕ) → IsFeasible m r k)
    (none : (n t : ℕ) → n < length m.nodes → t < s → entry m n t ≡ 0) where
  -- where nobody has arrived by a moment before s, nobody has left
  stays : (n t : ℕ) → n < length m.nodes → IsFalse (is_exit_at m n) → t < s → arrived m r n t ≡ 0 → left m r n t ≡ 0
  stays n t i e l z =
      omega (
        arith,
        (within m r n t (capacity m n) ((feasible t).holds n t i e (omega arith))).0,
        came_is m r n t,
        nothing_to (entry m n) t (λ j k. none n j i (omega (arith, k, l))),
        z,
      )

  -- a move that nobody left by has nobody
  idle : (i : ℕ) (d : Move) (t : ℕ) → i < length r → (get_or r i d).moment ≤ t → left m r (tail m (get_or r i d).arc) t ≡ 0
      → (get_or r i d).people ≡ 0
  unfolding left
  idle i d t l h z =
      let v = get_or r i d in
      omega (
        arith,
        z,
        one_term (tail m v.arc) v.moment t v.people h,
        get_or-le-sum_by (λ w. cond (eqb (tail m w.arc) (tail m v.arc) && leb w.moment t) w.people 0) r i d l,
      )

  -- where nobody has left any node by a moment, nobody arrives by the next
  nobody_arrives : (n t : ℕ) → ((i : ℕ) → i < length m.nodes → IsFalse (is_exit_at m i) → left m r i t ≡ 0) → arrived m r n (suc t) ≡ 0
  unfolding arrived
  nobody_arrives n t quiet =
      sum_by-same_all _ (λ _. 0) r
      (λ j d k. let v = get_or r j d in
      let range = (feasible 0).arcs j d k in
      nobody_there (eqb (head m v.arc) n) v.moment (arc_at m v.arc).travel t v.people (slow r valid (feasible 0).arcs j d k)
      (λ h. idle j d t k h (quiet (tail m v.arc) (tail_in m v.arc valid range) (arc_is m v.arc valid range).from_no_exit)))
      ∙ sum_by-nothing r

  nobody_leaves : (t : ℕ) → t < s → (n : ℕ) → n < length m.nodes → IsFalse (is_exit_at m n) → left m r n t ≡ 0
  nobody_leaves zero l n i e = stays n 0 i e l (arrived_not_yet m r n 0 (λ j d k _. omega arith) (slow r valid (feasible 0).arcs))
  nobody_leaves (suc t) l n i e = stays n (suc t) i e l (nobody_arrives n t (nobody_leaves t (omega (arith, l))))

  -- nobody moves before s
  pub somebody_later : IsLate s r
  somebody_later i d l some = elim (cases_lt (get_or r i d).moment s) [
    | inl early ↦
        let v = get_or r i d in
        let range = (feasible 0).arcs i d l in
        let nobody = idle i d v.moment l (omega arith) (nobody_leaves v.moment early (tail m v.arc) (tail_in m v.arc valid range) (arc_is m v.arc valid range).from_no_exit) in
        absurd (omega (arith, nobody, some))
    | inr later ↦ later
  ]
