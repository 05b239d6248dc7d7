-- Travel times that are rounded to whole longer periods.
use Rattle.std.proofs.Common.{◌≡◌, ℕ, ◌+◌, ◌*◌, ◌<◌, ◌≤◌, Bool, true, false, cond, not, ◌&&◌, ◌||◌, eqb, leb, List, ap, sym, ◌∙◌, arith, inl, inr}
use Rattle.std.specs.List.{sum_by}
use Rattle.std.proofs.Math.Nat.{mul-le-mul_left}
use Rattle.std.proofs.lemmas.Bool.{both_ways, cases_lt, le-leb, lt-leb}
use Rattle.std.proofs.lemmas.Bool.Decides.{nat_tests}
use Rattle.evac_law.specs.declared.model.Model.{Model}
use Rattle.evac_law.specs.declared.plan.Move.{Move}
use Rattle.evac_law.specs.Building.{IsValid, arc_at, arrival, capacity, entry, head, is_exit_at, people, tail}
use Rattle.evac_law.specs.Cuts.{Cut, cut_value, leaves_cut}
use Rattle.evac_law.specs.Plans.{IsFeasible, out_by}
use Rattle.evac_law.specs.Sums.{below, moments_to}
use Rattle.evac_law.proofs.Optimal.{certified_is_feasible}
use Rattle.evac_law.proofs.SumLemmas.{pick_le, sum_by-nothing, sum_by-same}
use Rattle.evac_law.proofs.WeakDuality.{out_le_value}
use Rattle.building_laws.specs.Finer.{HasRoundedTravels, IsFiner, LiesBetween, RoundedClearWithin}
use Rattle.building_laws.specs.Rooms.{HasRoomForEntries, HasSteadyRates}
use Rattle.building_laws.proofs.Counts.{termwise}
use Rattle.building_laws.proofs.Duality.{cleared_or_short, cut_of}
use Rattle.building_laws.proofs.Periods.{by_parts, times_next}
use Rattle.building_laws.proofs.WaitingCut.{from_moments, moments_outside, of_node, waiting_cut}
use Rattle.building_laws.proofs.Finer.{at_part, best_of_certified, clears_between, end_in_horizon, entries_same, from_parts, is_le, later, leave, people_same, sooner, value_coarse}

from_no_hold : (q j f t c : ℕ) → cond (leb f (q * t + j) && not (leb f (q * (t + 1) + j))) c 0 ≡ 0
from_no_hold q j f t c =
    stays (leb f (q * t + j)) (leb f (q * (t + 1) + j)) c
    (λ e. le-leb f (q * (t + 1) + j) (omega (arith, is_le f (q * t + j) e, times_next q t)))
  where
    stays : (u v : Bool) (c : ℕ) → (u ≡ true → v ≡ true) → cond (u && not v) c 0 ≡ 0
    stays u v c h = grind arith

module _ (m f : Model) (q : ℕ) (valid : IsValid m) (valid' : IsValid f) (finer : IsFiner m f q) where
  -- a cut that has each node from a moment of its own on, in both
  module _ (g : ℕ → ℕ) (k z : ℕ) (l : k ≤ m.horizon) (last : z + 1 ≡ q * (k + 1)) where
    late_entry : (u v : Bool) (e e' : ℕ) → (u ≡ true → v ≡ true) → e ≡ e' → cond (v || eqb e 0) 0 e ≤ cond (u || eqb e' 0) 0 e'
    late_entry u v e e' h s = grind (arith, nat_tests)

    part_entries : (j n : ℕ) → j < q
        → sum_by (λ t. cond (leb (g n) (q * t + j) || eqb (entry m n t) 0) 0 (entry m n t)) (moments_to k)
        ≤ sum_by (λ s. cond (leb (g n) s || eqb (entry f n s) 0) 0 (entry f n s)) (moments_to z)
    part_entries j n small =
        let h = λ (s : ℕ). cond (leb (g n) s || eqb (entry f n s) 0) 0 (entry f n s) in
        omega (
          arith,
          ap (λ i. sum_by h (below i)) last,
          by_parts h q (k + 1),
          termwise (λ t. cond (leb (g n) (q * t + j) || eqb (entry m n t) 0) 0 (entry m n t)) (λ t. sum_by (λ i. h (q * t + i)) (below q)) (k + 1)
              (λ t _.
              let at : q * t + 0 ≡ q * t = omega arith in
              omega (
                arith,
                late_entry (leb (g n) (q * t)) (leb (g n) (q * t + j)) (entry m n t) (entry f n (q * t))
                    (λ e. le-leb (g n) (q * t + j) (omega (arith, is_le (g n) (q * t) e))) (sym (finer.entries n t)),
                ap h at,
                pick_le (λ i. h (q * t + i)) q 0 (omega (arith, finer.some)),
              )),
        )

    part_node : (j n : ℕ) → j < q → of_node m k (at_part m f q finer (from_moments g) j) n ≤ of_node f z (from_moments g) n
    part_node j n small =
        omega (
          arith,
          part_entries j n small,
          sum_by-same (λ t. cond (leb (g n) (q * t + j) && not (leb (g n) (q * (t + 1) + j))) (capacity m n) 0) (λ _. 0) (below k)
              (λ t. from_no_hold q j (g n) t (capacity m n)),
          sum_by-nothing (below k),
        )

    -- no longer in the second model: a cut of it bounds the first
    pub no_longer : ((a : ℕ) → (arc_at f a).travel ≤ q * (arc_at m a).travel)
        → (p : List Move) → IsFeasible m p k → out_by m p k ≤ cut_value f (from_moments g) z
    no_longer travels p feasible =
        from_parts m f q finer k z l last (from_moments g) (λ j n s _. part_node j n s) leaves (out_by m p k)
        (λ j. out_le_value m (at_part m f q finer (from_moments g) j) p k valid feasible)
      where
        arrives : (a t j : ℕ) → arrival f a (q * t + j) ≤ q * arrival m a t + j
        arrives a t j = omega (arith, travels a)

        leaves : (a t j : ℕ) → j < q → leaves_cut m (at_part m f q finer (from_moments g) j) k t a ≡ true
            → leaves_cut f (from_moments g) z (q * t + j) a ≡ true
        leaves a t j s =
            leave (leb (g (tail m a)) (q * t + j)) (leb (g (tail f a)) (q * t + j)) (leb (arrival m a t) k) (leb (arrival f a (q * t + j)) z)
            (is_exit_at m (head m a)) (is_exit_at f (head f a))
            (leb (g (head m a)) (q * arrival m a t + j)) (leb (g (head f a)) (arrival f a (q * t + j)))
            (λ e. ap (λ n. leb (g n) (q * t + j)) (sym (finer.shape.tails a)) ∙ e)
            (λ e. le-leb (arrival f a (q * t + j)) z (omega (arith, arrives a t j, later m f q finer (arrival m a t) j k z s (is_le _ _ e) last)))
            (finer.shape.exits (head m a) ∙ ap (is_exit_at f) (finer.shape.heads a))
            (λ e. ap (λ n. leb (g n) (arrival f a (q * t + j))) (sym (finer.shape.heads a))
            ∙ not_later (g (head m a)) (arrival f a (q * t + j)) (q * arrival m a t + j) (arrives a t j) e)
          where
            not_later : (c s t : ℕ) → s ≤ t → leb c t ≡ false → leb c s ≡ false
            not_later c s t l e = grind (arith, nat_tests)

    -- no shorter: a cut of the first bounds the second
    pub no_shorter : ((a : ℕ) → q * (arc_at m a).travel ≤ (arc_at f a).travel)
        → (r : List Move) → IsFeasible f r z → out_by f r z ≤ cut_value m (from_moments g) k
    no_shorter travels r feasible =
        omega (arith, out_le_value f y r z valid' feasible, value_coarse m f q finer k z l last (from_moments g) y same leaves)
      where
        y : Cut
        y n s = leb (q * g n) s

        from_part : (c t j : ℕ) → j < q → leb (q * c) (q * t + j) ≡ leb c t
        from_part c t j s = elim (cases_lt t c) [
          | inl before ↦
              let next : t + 1 ≤ c = omega (arith, before) in
              lt-leb (q * c) (q * t + j) (omega (arith, s, mul-le-mul_left q next, times_next q t)) ∙ sym (lt-leb c t before)
          | inr from ↦ le-leb (q * c) (q * t + j) (omega (arith, mul-le-mul_left q from)) ∙ sym (le-leb c t from)
        ]

        same : (n t j : ℕ) → j < q → y n (q * t + j) ≡ from_moments g n t
        same n t j s = from_part (g n) t j s

        arrives : (a t j : ℕ) → q * arrival m a t ≤ arrival f a (q * t + j)
        arrives a t j = omega (arith, travels a)

        not_in : (c t s : ℕ) → q * t ≤ s → leb (q * c) s ≡ false → leb c t ≡ false
        not_in c t s l e = elim (cases_lt t c) [
          | inl before ↦ lt-leb c t before
          | inr from ↦ absurd (both_ways (leb (q * c) s) e (le-leb (q * c) s (omega (arith, l, mul-le-mul_left q from))))
        ]

        leaves : (a t j : ℕ) → j < q → leaves_cut f y z (q * t + j) a ≡ true → leaves_cut m (from_moments g) k t a ≡ true
        leaves a t j s =
            leave (y (tail f a) (q * t + j)) (leb (g (tail m a)) t) (leb (arrival f a (q * t + j)) z) (leb (arrival m a t) k)
            (is_exit_at f (head f a)) (is_exit_at m (head m a)) (y (head f a) (arrival f a (q * t + j))) (leb (g (head m a)) (arrival m a t))
            (λ e. ap (λ n. leb (g n) t) (finer.shape.tails a) ∙ sym (same (tail f a) t j s) ∙ e)
            (λ e. le-leb (arrival m a t) k (sooner m f q finer (arrival m a t) (arrival f a (q * t + j)) k z (is_le _ _ e) last (arrives a t j)))
            (ap (is_exit_at f) (sym (finer.shape.heads a)) ∙ sym (finer.shape.exits (head m a)))
            (λ e. ap (λ n. leb (g n) (arrival m a t)) (finer.shape.heads a) ∙ not_in (g (head f a)) (arrival m a t) (arrival f a (q * t + j)) (arrives a t j) e)

-- steady rates of shorter periods make steady rates of longer ones
pub steady_back : (m f : Model) (q : ℕ) → IsFiner m f q → HasSteadyRates f → HasSteadyRates m
steady_back m f q finer steady a t i l =
    let part : q * t + 0 ≤ f.horizon = omega (arith, later m f q finer t 0 m.horizon f.horizon (omega (arith, finer.some)) l finer.horizon) in
    let first : q * 0 + 0 ≤ f.horizon = omega arith in
    finer.rates a t 0 i l (omega (arith, finer.some))
    ∙ ap (λ r. q * r) (steady a (q * t + 0) (omega (arith, i, finer.shape.arcs)) part ∙ sym (steady a (q * 0 + 0) (omega (arith, i, finer.shape.arcs)) first))
    ∙ sym (finer.rates a 0 0 i (omega arith) (omega (arith, finer.some)))

pub room_back : (m f : Model) (q : ℕ) → IsFiner m f q → HasRoomForEntries f → HasRoomForEntries m
room_back m f q finer room n l =
    omega (arith, entries_same m f q finer n m.horizon f.horizon finer.horizon, room n (omega (arith, l, finer.shape.places)), finer.capacities n)

module _ (slow f fast : Model) (q : ℕ) (valid_slow : IsValid slow) (valid : IsValid f) (valid_fast : IsValid fast)
    (rounded : HasRoundedTravels slow f fast q) (steady : HasSteadyRates f) (room : HasRoomForEntries f) where
  abbrev finer_slow : IsFiner slow f q
  finer_slow = rounded.finer_slow

  abbrev finer_fast : IsFiner fast f q
  finer_fast = rounded.finer_fast

  -- a cut of one bounds the plans of a slower one
  slow_bound : (p : List Move) (y : Cut) (k z : ℕ) → k ≤ slow.horizon → z + 1 ≡ q * (k + 1) → IsFeasible slow p k → out_by slow p k ≤ cut_value f y z
  slow_bound p y k z l last feasible =
      omega (
        arith,
        no_longer slow f q valid_slow valid finer_slow (moments_outside y z) k z l last rounded.up p feasible,
        waiting_cut f y z (end_in_horizon slow f q finer_slow k z l last) steady room,
      )

  fast_bound : (r : List Move) (x : Cut) (k z : ℕ) → k ≤ fast.horizon → z + 1 ≡ q * (k + 1) → IsFeasible f r z → out_by f r z ≤ cut_value fast x k
  fast_bound r x k z l last feasible =
      omega (
        arith,
        no_shorter fast f q valid_fast valid finer_fast (moments_outside x k) k z l last rounded.down r feasible,
        waiting_cut fast x k l (steady_back fast f q finer_fast steady) (room_back fast f q finer_fast room),
      )

  people_slow : people slow ≡ people f
  people_slow = people_same slow f q finer_slow valid_slow valid

  people_fast : people fast ≡ people f
  people_fast = people_same fast f q finer_fast valid_fast valid

  pub rounded_travels_bracket : LiesBetween slow f fast q
  rounded_travels_bracket = record {
    no_fewer = λ p r k z l last feasible best.
        let y = cut_of f r z valid (end_in_horizon slow f q finer_slow k z l last) best in
        omega (arith, slow_bound p y.0 k z l last feasible, y.1);
    no_more = λ p r k z l last best feasible.
        let x = cut_of fast p k valid_fast l best in
        omega (arith, fast_bound r x.0 k z l last feasible, x.1);
    clears = λ plan. elim (cleared_or_short f valid room) [
      | inl cleared ↦ cleared
      | inr short ↦
          absurd (omega (arith, slow_bound plan.0 short.0 slow.horizon f.horizon (omega arith) finer_slow.horizon plan.1, plan.2, short.1, people_slow))
    ];
    clears_back = λ plan. elim (cleared_or_short fast valid_fast (room_back fast f q finer_fast room)) [
      | inl cleared ↦ cleared
      | inr short ↦
          absurd (omega (arith, fast_bound plan.0 short.0 fast.horizon f.horizon (omega arith) finer_fast.horizon plan.1, plan.2, short.1, people_fast))
    ];
  }

pub rounded_clear_within : RoundedClearWithin
rounded_clear_within slow f fast q valid_slow valid valid_fast rounded steady room p r s l i j b d c good_fast good good_slow =
    let between = rounded_travels_bracket slow f fast q valid_slow valid valid_fast rounded steady room in
    clears_between slow f fast q rounded.finer_slow.some s r p j i l c d b good_slow good good_fast
    (people_same slow f q rounded.finer_slow valid_slow valid) (people_same fast f q rounded.finer_fast valid_fast valid)
    (λ k z u last. between.no_fewer s r k z u last (certified_is_feasible slow s j c k valid_slow good_slow) (best_of_certified f r i d z valid good))
    (λ k z u last. between.no_more p r k z u last (best_of_certified fast p l b k valid_fast good_fast) (certified_is_feasible f r i d z valid good))
