-- A best plan and a least cut: a plan is made better by one person at a time until a cut shows that it is best.
use Rattle.std.proofs.Common.{◌≡◌, ℕ, zero, suc, ◌+◌, ◌<◌, ◌≤◌, Bool, true, false, not, ◌&&◌, ◌||◌, ◌⊎◌, ltb, leb, List, [], length, refl, ap, sym, ◌∙◌, subst, add-one, arith, inl, inr, IsTrue, IsFalse, pos}
use Rattle.std.proofs.lemmas.Bool.{and_parts, leb-true, not-true, cases_Bool, cases_lt, ltb-false, le-leb, lt-ltb, not_from_false, not-false, or_parts}
use Rattle.std.proofs.lemmas.Int.{ints}
use Rattle.evac_law.specs.declared.model.Model.{Model}
use Rattle.evac_law.specs.declared.plan.Move.{Move}
use Rattle.evac_law.specs.Building.{IsValid, arrival, capacity, head, is_exit_at, people, rate, tail}
use Rattle.evac_law.specs.Certificates.{IsClearable, IsTight}
use Rattle.evac_law.specs.Cuts.{Cut, IsCut, cut_value, leaves_cut}
use Rattle.evac_law.specs.Plans.{IsFeasible, came, held, left, moved, out_by}
use Rattle.evac_law.proofs.Optimal.{lawful_down, out_le_out, out_le_people}
use Rattle.evac_law.proofs.SumLemmas.{sum_moments-le}
use Rattle.evac_law.proofs.Tight.{tight_is_equal}
use Rattle.evac_law.proofs.ValidLemmas.{arc_is, head_in}
use Rattle.evac_law.proofs.WeakDuality.{out_le_value, within}
use Rattle.building_laws.specs.Duality.{IsBestAt, HasEqualCut}
use Rattle.building_laws.specs.Rooms.{HasRoomForEntries}
use Rattle.building_laws.proofs.Growing.{Better, Closed, Grown, grow_up}
use Rattle.building_laws.proofs.Tables.{IsFlow, before, comes, comes_least, flow_of_plan, goes_none, gone_moved, out_is, plan, plan_is_feasible, stays}

-- ---- a closed set is a tight cut

last3 : (p q s : Bool) → (p && (q && s)) ≡ false → p ≡ true → q ≡ true → s ≡ false
last3 p q s e a b = grind arith

last5 : (p q r s t : Bool) → (p && (q && (r && (s && t)))) ≡ false → p ≡ true → q ≡ true → r ≡ true → s ≡ true → t ≡ false
last5 p q r s t e a b c d = grind arith

exit_or_not : (e r : Bool) → (e || not r) ≡ true → e ≡ false → not r ≡ true
exit_or_not e r h f = grind arith

module _ (m : Model) (q : List Move) (z k : ℕ) (by_z : k ≤ z) (valid : IsValid m) (feasible : IsFeasible m q z) where
  abbrev f : ℕ → ℕ → ℕ
  f = moved q

  abbrev h : ℕ → ℕ → ℕ
  h = stays m q

  abbrev flow : IsFlow m z f h (λ _ _. 0)
  flow = flow_of_plan m z q feasible

  held_is : (n t c : ℕ) → n < length m.nodes → IsFalse (is_exit_at m n) → t ≤ z → h n t ≡ c → held m q n t ≡ pos c
  unfolding held
  held_is n t c i e l same = grind (arith, within, ints)

  module _ (r : ℕ → ℕ → Bool) (grown : Grown m z k by_z valid f h flow r) (closed : Closed m z k by_z valid f h flow r) where
    empty : (w : ℕ) → ltb 0 w ≡ false → w ≡ 0
    empty w e = omega (arith, ltb-false 0 w e)

    -- who is outside the set after k is nobody: nobody could be left, under way or out late
    waiting : (n t : ℕ) → n < length m.nodes → IsFalse (is_exit_at m n) → t ≤ z → IsFalse (r n t)
        → (t < z → IsFalse (r n (t + 1)) → before h n (t + 1) ≡ 0) → h n t ≡ 0
    waiting n t i e l off next = elim (cases_lt t z) [
      | inr last ↦
          let same : t ≡ z = omega (arith, l, last) in
          empty (h n t)
          (ap (λ u. ltb 0 (h n u)) same
          ∙ last3 (not (is_exit_at m n)) (not (r n z)) (ltb 0 (h n z)) (closed.no_rest n i) (not_from_false (is_exit_at m n) e)
          (not_from_false (r n z) (sym (ap (r n) same) ∙ off)))
      | inl more ↦ elim (cases_Bool (r n (t + 1))) [
        | inl on ↦
            empty (h n t)
            (last3 (r n (t + 1)) (not (r n t)) (ltb 0 (h n t)) (closed.no_hurry n t i more) on (not_from_false (r n t) off))
        | inr never ↦ ap (before h n) (sym (add-one t)) ∙ next more never
      ]
    ]

    going : (a t : ℕ) → a < length m.arcs → t ≤ z → k < arrival m a t → IsFalse (r (tail m a) t)
        → (arrival m a t ≤ z → IsFalse (is_exit_at m (head m a)) → IsFalse (r (head m a) (arrival m a t)) → comes m f (head m a) (arrival m a t) ≡ 0)
        → f a t ≡ 0
    going a t i l late off next = grind (arith, cases_lt, empty, last3, lt-ltb, not_from_false, le-leb, cases_Bool, last5, comes_least)

    nobody : (fuel n t : ℕ) → z ≤ t + fuel → n < length m.nodes → IsFalse (is_exit_at m n) → k < t → t ≤ z → IsFalse (r n t)
        → (comes m f n t ≡ 0) × (before h n t ≡ 0)
    nobody zero n t s i e late l off =
        let stay = waiting n t i e l off (λ more never. absurd (omega (arith, s, more))) in
        let gone_on = goes_none m f n t (λ a j at. going a t j l (omega (arith, late)) (ap (λ c. r c t) at ∙ off)
        (λ by inner never. absurd (omega (arith, s, by, (arc_is m a valid j).travel_fits.0)))) in
        let bal = flow.balance n t i e l in (omega (arith, bal, stay, gone_on), omega (arith, bal, stay, gone_on))
    nobody (suc fuel) n t s i e late l off =
        let stay = waiting n t i e l off
        (λ more never. (nobody fuel n (t + 1) (omega (arith, s)) i e (omega (arith, late)) (omega (arith, more)) never).1) in
        let gone_on = goes_none m f n t (λ a j at. going a t j l (omega (arith, late)) (ap (λ c. r c t) at ∙ off)
        (λ by inner never. (nobody fuel (head m a) (arrival m a t) (omega (arith, s, (arc_is m a valid j).travel_fits.0)) (head_in m a valid j) inner
        (omega (arith, late)) by never).0)) in
        let bal = flow.balance n t i e l in (omega (arith, bal, stay, gone_on), omega (arith, bal, stay, gone_on))

    -- the cut: the set up to k
    abbrev cut : Cut
    cut n t = r n t && leb t k

    outside : (n t : ℕ) → t ≤ k → IsFalse (cut n t) → IsFalse (r n t)
    outside n t l e = first (r n t) (leb t k) e (le-leb t k l)
      where
        first : (p q : Bool) → (p && q) ≡ false → q ≡ true → p ≡ false
        first p q h i = grind arith

    inside : (n t : ℕ) → IsTrue (cut n t) → (r n t ≡ true) × (t ≤ k)
    inside n t e = let parts = and_parts (r n t) (leb t k) e in (parts.0, leb-true t k parts.1)

    full : (a t : ℕ) → a < length m.arcs → t ≤ k → IsTrue (leaves_cut m cut k t a) → f a t ≡ rate m a t
    full a t i l e =
        let first = and_parts (cut (tail m a) t) (leb (arrival m a t) k && (is_exit_at m (head m a) || not (cut (head m a) (arrival m a t)))) e in
        let second = and_parts (leb (arrival m a t) k) (is_exit_at m (head m a) || not (cut (head m a) (arrival m a t))) first.1 in
        let on = (inside (tail m a) t first.0).0 in
        let in_time = leb-true (arrival m a t) k second.0 in
        elim (cases_Bool (is_exit_at m (head m a))) [
          | inl exit ↦
              let most = ltb-false (f a t) (rate m a t)
              (last5 (leb (arrival m a t) k) (is_exit_at m (head m a)) (r (tail m a) t) true (ltb (f a t) (rate m a t))
              (closed.no_exit a t i (omega (arith, l, by_z))) second.0 exit on refl) in
              omega (arith, most, feasible.rates a t i (omega (arith, l, by_z)))
          | inr inner ↦
              let off = not-true (cut (head m a) (arrival m a t)) (exit_or_not (is_exit_at m (head m a)) (cut (head m a) (arrival m a t)) second.1 inner) in
              let most = ltb-false (f a t) (rate m a t)
              (last5 (leb (arrival m a t) z) (not (is_exit_at m (head m a))) (r (tail m a) t) (not (r (head m a) (arrival m a t))) (ltb (f a t) (rate m a t))
              (closed.no_arc a t i (omega (arith, l, by_z))) (le-leb (arrival m a t) z (omega (arith, in_time, by_z)))
              (not_from_false (is_exit_at m (head m a)) inner) on
              (not_from_false (r (head m a) (arrival m a t)) (outside (head m a) (arrival m a t) in_time off))) in
              omega (arith, most, feasible.rates a t i (omega (arith, l, by_z)))
        ]

    none : (a t : ℕ) → a < length m.arcs → t ≤ k → IsFalse (cut (tail m a) t)
        → IsFalse (leb (arrival m a t) k && (is_exit_at m (head m a) || not (cut (head m a) (arrival m a t)))) → f a t ≡ 0
    none a t i l away e =
        let off = outside (tail m a) t l away in elim (cases_lt k (arrival m a t)) [
          | inl late ↦
              going a t i (omega (arith, l, by_z)) late off
              (λ by inner never. (nobody z (head m a) (arrival m a t) (omega arith) (head_in m a valid i) inner late by never).0)
          | inr in_time ↦
              let soon = le-leb (arrival m a t) k in_time in
              let parts = or_parts (is_exit_at m (head m a)) (not (cut (head m a) (arrival m a t)))
              (rest (leb (arrival m a t) k) (is_exit_at m (head m a) || not (cut (head m a) (arrival m a t))) e soon) in
              empty (f a t)
              (last5 (leb (arrival m a t) z) (not (is_exit_at m (head m a))) (r (head m a) (arrival m a t)) (not (r (tail m a) t)) (ltb 0 (f a t))
              (closed.no_return a t i (omega (arith, l, by_z))) (le-leb (arrival m a t) z (omega (arith, in_time, by_z)))
              (not_from_false (is_exit_at m (head m a)) parts.0)
              (inside (head m a) (arrival m a t) (not-false (cut (head m a) (arrival m a t)) parts.1)).0 (not_from_false (r (tail m a) t) off))
        ]
      where
        rest : (p q : Bool) → (p && q) ≡ false → p ≡ true → q ≡ false
        rest p q e a = grind arith

    tight : IsTight m q cut k
    tight = record {
      holds_full = λ n t i e l on off.
          let most = ltb-false (h n t) (capacity m n)
          (last3 (r n t) (not (r n (t + 1))) (ltb (h n t) (capacity m n)) (closed.no_wait n t i (omega (arith, l, by_z))) (inside n t on).0
          (not_from_false (r n (t + 1)) (outside n (t + 1) (omega (arith, l)) off))) in
          held_is n t (capacity m n) i e (omega (arith, l, by_z)) (omega (arith, most, flow.rooms n t i e (omega (arith, l, by_z))));
      holds_empty = λ n t i e l off on.
          held_is n t 0 i e (omega (arith, l, by_z))
          (empty (h n t) (last3 (r n (t + 1)) (not (r n t)) (ltb 0 (h n t)) (closed.no_hurry n t i (omega (arith, l, by_z))) (inside n (t + 1) on).0
          (not_from_false (r n t) (outside n t (omega (arith, l)) off))));
      nobody_left = λ n i e off.
          held_is n k 0 i e by_z
          (waiting n k i e by_z (outside n k (omega arith) off)
          (λ more never. (nobody z n (k + 1) (omega arith) i e (omega arith) (omega (arith, more)) never).1));
      arcs_full = full;
      arcs_empty = none;
    }

    shown : k ≤ m.horizon → HasEqualCut m q k
    shown l = grind (arith, inside, tight_is_equal, lawful_down, tight)

-- ---- one person more at a time, moment by moment

-- a plan that is feasible up to z, and that cuts show to be best at each moment below k
abbrev Best : Model → ℕ → ℕ → List Move → Type 0
Best m z k p = IsFeasible m p z × ((i : ℕ) → i < k → HasEqualCut m p i)

module _ (m : Model) (z k : ℕ) (by_z : k ≤ z) (valid : IsValid m) (l : z ≤ m.horizon) where
  -- where another plan has as many out, it is shown to be best too
  shown_too : (p q : List Move) (i : ℕ) → i ≤ k → IsFeasible m q z → out_by m p i ≤ out_by m q i → HasEqualCut m p i → HasEqualCut m q i
  shown_too p q i s feasible more is = grind (arith, out_le_value, lawful_down)

  -- a set that no one can leave shows that the plan is best at k too
  settle : (q : List Move) (best : Best m z k q) (r : ℕ → ℕ → Bool) → Grown m z k by_z valid (moved q) (stays m q) (flow_of_plan m z q best.0) r
      → Closed m z k by_z valid (moved q) (stays m q) (flow_of_plan m z q best.0) r → Best m z (suc k) q
  settle q best r grown closed = (
    best.0,
    λ i s. elim (cases_lt i k) [
      | inl less ↦ best.1 i less
      | inr last ↦
          let same : k ≡ i = omega (arith, s, last) in
          subst (HasEqualCut m q) same (shown m q z k by_z valid best.0 r grown closed (omega (arith, by_z, l)))
    ],
  )

  -- a better flow is a better plan
  improve : (q : List Move) (best : Best m z k q) → Better m z k by_z valid (moved q) (stays m q) (flow_of_plan m z q best.0)
      → (p : List Move) × Best m z k p × (out_by m p k ≡ out_by m q k + 1)
  improve q best better =
      let next = plan m z better.0 better.1 better.2 in
      let feasible = plan_is_feasible m z better.0 better.1 better.2 in (
        next,
        (
          feasible,
          λ i s. shown_too q next i (omega (arith, s)) feasible
              (omega (arith, out_is m z better.0 better.1 better.2 i (omega (arith, s, by_z)), better.3 i (omega (arith, s)), gone_moved m i q best.0.arcs))
              (best.1 i s),
        ),
        omega (arith, out_is m z better.0 better.1 better.2 k by_z, better.4, gone_moved m k q best.0.arcs),
      )

  raise : (fuel : ℕ) (q : List Move) → Best m z k q → people m ≤ out_by m q k + fuel → (p : List Move) × Best m z (suc k) p
  raise zero q best few = elim (grow_up m z k by_z valid (moved q) (stays m q) (flow_of_plan m z q best.0)) [
    | inr done ↦ (q, settle q best done.0 done.1 done.2)
    | inl better ↦
        let next = improve q best better in
        absurd (omega (arith, few, next.2, out_le_people m next.0 k valid (lawful_down m next.0 k z by_z next.1.0)))
  ]
  raise (suc fuel) q best few = elim (grow_up m z k by_z valid (moved q) (stays m q) (flow_of_plan m z q best.0)) [
    | inr done ↦ (q, settle q best done.0 done.1 done.2)
    | inl better ↦ let next = improve q best better in raise fuel next.0 next.1 (omega (arith, few, next.2))
  ]

module _ (m : Model) (z : ℕ) (valid : IsValid m) (l : z ≤ m.horizon) (q : List Move) (feasible : IsFeasible m q z) where
  up_to : (k : ℕ) → k ≤ z + 1 → (p : List Move) × Best m z k p
  up_to zero s = (q, (feasible, λ i t. absurd (omega (arith, t))))
  up_to (suc k) s =
      let is = up_to k (omega (arith, s)) in
      raise m z k (omega (arith, s)) valid l (people m) is.0 is.1 (omega arith)

pub best_at_every_moment : (m : Model) (q : List Move) (z : ℕ) → IsValid m → z ≤ m.horizon → IsFeasible m q z
    → (p : List Move) × IsFeasible m p z × ((k : ℕ) → k ≤ z → HasEqualCut m p k)
best_at_every_moment m q z valid l feasible =
    let is = up_to m z valid l q feasible (z + 1) (omega arith) in
    (is.0, is.1.0, λ k s. is.1.1 k (omega (arith, s)))

-- where some plan is feasible up to a moment, one is best there
pub best_of : (m : Model) (q : List Move) (k : ℕ) → IsValid m → k ≤ m.horizon → IsFeasible m q k → (p : List Move) × IsBestAt m p k
best_of m q k valid l feasible =
    let is = best_at_every_moment m q k valid l feasible in
    let cut = is.2 k (omega arith) in
    (is.0, record { feasible = is.1; most = λ r by. omega (arith, cut.2, out_le_value m cut.0 r k valid by) })

-- and a cut shows of each best plan that it is
pub cut_of : (m : Model) (p : List Move) (k : ℕ) → IsValid m → k ≤ m.horizon → IsBestAt m p k → (x : Cut) × (cut_value m x k ≤ out_by m p k)
cut_of m p k valid l best =
    let is = best_at_every_moment m p k valid l best.feasible in
    let cut = is.2 k (omega arith) in
    (cut.0, omega (arith, cut.2, best.most is.0 is.1))

-- by a later moment no fewer can be out
pub no_fewer_later : (m : Model) (p q : List Move) (k z : ℕ) → IsValid m → k ≤ z → z ≤ m.horizon → IsFeasible m p k → IsBestAt m q z
    → out_by m p k ≤ out_by m q z
no_fewer_later m p q k z valid s l feasible best =
    let is = best_at_every_moment m q z valid l best.feasible in
    let cut = is.2 k s in
    omega (arith, out_le_value m cut.0 p k valid feasible, cut.2, out_le_out m is.0 k z s, best.most is.0 is.1)

pub most_is_reached : (m : Model) (q : List Move) (x : Cut) → IsValid m → IsFeasible m q m.horizon → IsCut m x
    → ((y : Cut) → IsCut m y → cut_value m x m.horizon ≤ cut_value m y m.horizon)
    → (p : List Move) × IsFeasible m p m.horizon × (out_by m p m.horizon ≡ cut_value m x m.horizon)
most_is_reached m q x valid feasible cut least =
    let is = best_at_every_moment m q m.horizon valid (omega arith) feasible in
    let y = is.2 m.horizon (omega arith) in
    (is.0, is.1, omega (arith, y.2, least y.0 y.1, out_le_value m x is.0 m.horizon valid is.1))

-- ---- nobody moves

pub staying : (m : Model) (k : ℕ) → HasRoomForEntries m → k ≤ m.horizon → IsFeasible m [] k
unfolding moved held came left
staying m k room l = grind (arith, sum_moments-le, ints)

-- where staying is feasible, everybody can get out or a cut is worth fewer
pub cleared_or_short : (m : Model) → IsValid m → HasRoomForEntries m → IsClearable m ⊎ ((x : Cut) × (cut_value m x m.horizon < people m))
cleared_or_short m valid room =
    let is = best_at_every_moment m [] m.horizon valid (omega arith) (staying m m.horizon room (omega arith)) in
    let cut = is.2 m.horizon (omega arith) in
    elim (cases_lt (out_by m is.0 m.horizon) (people m)) [
      | inl fewer ↦ inr (cut.0, omega (arith, fewer, cut.2))
      | inr all ↦ inl (is.0, is.1, omega (arith, all, out_le_people m is.0 m.horizon valid is.1))
    ]
