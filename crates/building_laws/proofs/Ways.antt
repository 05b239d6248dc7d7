-- From a cut by the next moment, where ways lead out in time, one that is worth less by their width.
use Rattle.std.proofs.Common.{◌≡◌, ℕ, zero, suc, ◌+◌, ◌-◌, ◌*◌, ◌<◌, ◌≤◌, Bool, true, false, cond, ◌&&◌, ◌⊎◌, ltb, leb, List, [], ◌∷◌, length, refl, ap, sym, ◌∙◌, add-one, subst, arith, inl, inr, IsFalse}
use Rattle.std.proofs.Math.Nat.{mul-le-mul_left}
use Rattle.std.proofs.lemmas.Bool.{and_parts, both_ways, cases_Bool, cases_lt, leb-true, ltb-true}
use Rattle.std.proofs.lemmas.Bool.Decides.{nat_tests}
use Rattle.std.proofs.lemmas.List.Sums.{sum_by-cons}
use Rattle.evac_law.specs.declared.model.Model.{Model}
use Rattle.evac_law.specs.declared.plan.Move.{Move}
use Rattle.evac_law.specs.Building.{IsValid, arc_at, head, is_exit_at, people, rate, start, tail}
use Rattle.evac_law.specs.Cuts.{Cut, cut_value}
use Rattle.evac_law.specs.Plans.{IsFeasible, out_by}
use Rattle.evac_law.specs.Sums.{below}
use Rattle.evac_law.proofs.Optimal.{out_le_people}
use Rattle.evac_law.proofs.SumLemmas.{sum_below-same, sum_by-nothing}
use Rattle.evac_law.proofs.ValidLemmas.{arc_is, node_is}
use Rattle.evac_law.proofs.WeakDuality.{out_le_value}
use Rattle.building_laws.specs.Duality.{IsBestAt}
use Rattle.building_laws.specs.Rooms.{HasRoomForEntries}
use Rattle.building_laws.specs.Ways.{HasWays, KeepsPace, Way, way_time}
use Rattle.building_laws.proofs.Counts.{found, hits_and_misses, one_more, termwise}
use Rattle.building_laws.proofs.Duality.{best_of, cut_of, staying}
use Rattle.building_laws.proofs.Gaps.{all_paid, arc_shrinks, arc_worth, few_fewer, fewer, gap, gap_closes, node_shrinks, people_start}
use Rattle.building_laws.proofs.Plain.{nobody_later_has_room}
use Rattle.building_laws.proofs.WaitingCut.{from_moments, moments_outside, nodes_and_arcs, of_arc, of_node, waiting_cut}

-- ---- along a way

module _ (m : Model) (valid : IsValid m) (k : ℕ) (f : ℕ → ℕ) (r : ℕ) where
  -- from when on the cut has a node; an exit is in no cut
  abbrev begins : ℕ → ℕ
  begins n = cond (is_exit_at m n) (k + 1) (f n)

  -- an arc for r people at once whose head the cut has too late
  abbrev LateArc : Type 0
  LateArc = (a : ℕ) × (a < length m.arcs) × (r ≤ rate m a 0) × (1 ≤ gap (is_exit_at m (head m a)) k (arc_at m a).travel (f (tail m a)) (f (head m a)))

  late_arc : (n : ℕ) (w : List ℕ) → Way m r n w → begins n + way_time m w < k + 1 → LateArc
  late_arc n [] way l = absurd (omega (arith, l, ap (λ b. cond b (k + 1) (f n)) way))
  late_arc n (a ∷ w) way l =
      let inner = (arc_is m a valid way.0).from_no_exit in
      let from : begins n ≡ f (tail m a) = sym (ap begins way.2) ∙ ap (λ b. cond b (k + 1) (f (tail m a))) inner in
      elim (cases_lt (f (tail m a) + (arc_at m a).travel) (begins (head m a))) [
        | inl late ↦ (a, way.0, way.1, omega (arith, late))
        | inr soon ↦ late_arc (head m a) w way.3 (omega (arith, l, soon, from, sum_by-cons (λ a. (arc_at m a).travel) a w))
      ]

-- ---- every cut

module _ (m : Model) (r u : ℕ) (valid : IsValid m) (is : HasWays m r u) where
  room : HasRoomForEntries m
  room = nobody_later_has_room m valid is.nobody_later

  no_exit : (n : ℕ) → n < length m.nodes → 0 < start m n → IsFalse (is_exit_at m n)
  no_exit n i some = grind (arith, cases_Bool, node_is)

  starts : (g s : ℕ) (b : Bool) → b ≡ (ltb 0 s && leb g 0) → b ≡ false → s ≤ cond (leb g 0) 0 s
  starts g s b e h = grind (arith, nat_tests)

  module _ (x : Cut) (k : ℕ) (l : k + 1 ≤ m.horizon) (reach : u ≤ k + 1) where
    abbrev f : ℕ → ℕ
    f = moments_outside x (k + 1)

    few : (n : ℕ) → f n ≤ (k + 1) + 1
    few n = omega (arith, hits_and_misses (x n) ((k + 1) + 1))

    abbrev inside_at_once : ℕ → Bool
    inside_at_once n = ltb 0 (start m n) && leb (f n) 0

    -- a cut by k that is worth r less
    abbrev Less : Type 0
    Less = (g : ℕ → ℕ) × (cut_value m (from_moments g) k + r ≤ cut_value m (from_moments f) (k + 1))

    less : LateArc m valid (k + 1) f r → Less
    less arc =
        let a = arc.0 in
        let g = fewer m k 1 (f (tail m a)) f few in
        let of_gap = λ (exit : Bool) (d : ℕ). gap_closes exit k 1 d (f (tail m a)) (f (head m a)) in
        let e = is_exit_at m (head m a) in
        let d = (arc_at m a).travel in
        let smaller : gap e k d (g (tail m a)) (g (head m a)) + 1 ≤ gap e (k + 1) d (f (tail m a)) (f (head m a)) = omega (arith, arc.3, of_gap e d) in
        let here : of_arc m k (from_moments g) a + r ≤ of_arc m (k + 1) (from_moments f) a =
        omega (
          arith,
          arc_worth m is.steady g k a (omega (arith, l)) arc.1 (few_fewer m k 1 (f (tail m a)) f few),
          arc_worth m is.steady f (k + 1) a l arc.1 few,
          mul-le-mul_left (rate m a 0) smaller,
          arc.2,
        ) in (
          g,
          omega (
            arith,
            nodes_and_arcs m k (from_moments g),
            nodes_and_arcs m (k + 1) (from_moments f),
            termwise (of_node m k (from_moments g)) (of_node m (k + 1) (from_moments f)) (length m.nodes)
                (λ n i. node_shrinks m k 1 (f (tail m a)) f few n),
            one_more (of_arc m k (from_moments g)) (of_arc m (k + 1) (from_moments f)) r (length m.arcs) a arc.1
                (λ b j. arc_shrinks m k 1 (f (tail m a)) f few l is.steady b j) here,
          ),
        )

    from_inside : (n : ℕ) → n < length m.nodes → inside_at_once n ≡ true → Less
    from_inside n i e =
        let parts = and_parts (ltb 0 (start m n)) (leb (f n) 0) e in
        let some = ltb-true 0 (start m n) parts.0 in
        let way = is.ways n i some in
        let first : begins m valid (k + 1) f r n ≡ 0 = ap (λ b. cond b ((k + 1) + 1) (f n)) (no_exit n i some) ∙ omega (arith, leb-true (f n) 0 parts.1) in
        less (late_arc m valid (k + 1) f r n way.0 way.1 (omega (arith, first, way.2, reach)))

    pub next : (people m ≤ cut_value m x (k + 1)) ⊎ ((y : Cut) × (cut_value m y k + r ≤ cut_value m x (k + 1)))
    next =
        let least = waiting_cut m x (k + 1) l is.steady room in elim (found inside_at_once (length m.nodes)) [
          | inl some ↦ let y = from_inside some.0 some.1 some.2 in inr (from_moments y.0, omega (arith, y.1, least))
          | inr never ↦
              let all = all_paid m is.nobody_later f (k + 1) (λ n i. starts (f n) (start m n) (inside_at_once n) refl (never n i)) in
              inl (omega (arith, all, least))
        ]

  -- ---- plans

  pace : (p q : List Move) (k : ℕ) → u ≤ k + 1 → k + 1 ≤ m.horizon → IsFeasible m p k → IsBestAt m q (k + 1)
      → (out_by m q (k + 1) ≡ people m) ⊎ (out_by m p k + r ≤ out_by m q (k + 1))
  pace p q k reach l feasible best =
      let x = cut_of m q (k + 1) valid l best in elim (next x.0 k l reach) [
        | inl all ↦ inl (omega (arith, all, x.1, out_le_people m q (k + 1) valid best.feasible))
        | inr less ↦ inr (omega (arith, less.1, x.1, out_le_value m less.0 p k valid feasible))
      ]

  -- where nobody has to walk, nobody is inside
  no_walk : u ≡ 0 → (n : ℕ) → n < length m.nodes → start m n ≡ 0
  no_walk none n i = elim (cases_lt 0 (start m n)) [
    | inr nobody ↦ omega (arith, nobody)
    | inl some ↦ let way = is.ways n i some in absurd (walked some way.0 way.1 way.2)
  ]
    where
      walked : 0 < start m n → (w : List ℕ) → Way m r n w → way_time m w ≤ u → ⊥
      walked some [] way short = both_ways (is_exit_at m n) (no_exit n i some) way
      walked some (a ∷ w) way short = omega (arith, none, short, sum_by-cons (λ a. (arc_at m a).travel) a w, (arc_is m a valid way.0).travel_fits.0)

  in_time : (k : ℕ) (q : List Move) → k ≤ m.horizon → IsBestAt m q k → (out_by m q k ≡ people m) ⊎ (r * (k + 1 - u) ≤ out_by m q k)
  in_time zero q l best = elim (cases_lt 0 u) [
    | inl later ↦ let none : 0 + 1 - u ≡ 0 = omega (arith, later) in inr (omega (arith, ap (λ i. r * i) none))
    | inr at_once ↦
        let nobody = sum_below-same (start m) (λ _. 0) (length m.nodes) (no_walk (omega (arith, at_once))) in
        inl (omega (arith, out_le_people m q 0 valid best.feasible, people_start m is.nobody_later, nobody, sum_by-nothing (below (length m.nodes))))
  ]
  in_time (suc j) q l best = elim (cases_lt (j + 1) u) [
    | inl later ↦ let none : suc j + 1 - u ≡ 0 = omega (arith, later) in inr (omega (arith, ap (λ i. r * i) none))
    | inr reach ↦
        let now : IsBestAt m q (j + 1) = subst (IsBestAt m q) (sym (add-one j)) best in
        let same : out_by m q (j + 1) ≡ out_by m q (suc j) = ap (out_by m q) (add-one j) in
        let l' : j ≤ m.horizon = omega (arith, l) in
        let p = best_of m [] j valid l' (staying m j room l') in
        let one : suc j + 1 - u ≡ (j + 1 - u) + 1 = omega (arith, reach) in
        let most = out_le_people m q (suc j) valid best.feasible in
        elim (pace p.0 q j reach (omega (arith, l)) p.1.feasible now) [
          | inl all ↦ inl (omega (arith, same, all))
          | inr more ↦ elim (in_time j p.0 l' p.1) [
            | inl all ↦ inl (omega (arith, same, all, more, most))
            | inr many ↦ inr (omega (arith, same, more, many, ap (λ i. r * i) one))
          ]
        ]
  ]

  cleared : (q : List Move) (k : ℕ) → k ≤ m.horizon → people m ≤ r * (k + 1 - u) → IsBestAt m q k → out_by m q k ≡ people m
  cleared q k l enough best = grind (arith, in_time, out_le_people)

  pub ways_keep_pace : KeepsPace m r u
  ways_keep_pace = record {
    pace = pace;
    cleared = cleared;
    clears = λ enough.
        let p = best_of m [] m.horizon valid (omega arith) (staying m m.horizon room (omega arith)) in
        (p.0, p.1.feasible, cleared p.0 m.horizon (omega arith) enough p.1);
  }
