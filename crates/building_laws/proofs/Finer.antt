-- A cut of shorter periods gives one of longer periods for each part, and one of longer periods gives one of shorter.
use Rattle.std.proofs.Common.{◌≡◌, ℕ, zero, suc, ◌+◌, ◌-◌, ◌*◌, ◌/◌, ◌%◌, ◌<◌, ◌≤◌, Bool, true, false, cond, not, ◌&&◌, ◌||◌, ◌⊎◌, eqb, leb, List, [], length, refl, ap, sym, ◌∙◌, arith, inl, inr}
use Rattle.std.specs.List.{sum_by}
use Rattle.std.proofs.Math.Nat.{div-add-mod, div-eq_of_lt, le_of_mul-le-mul_left, mod-lt, mul-add-div, mul-le-mul_left, mul-zero}
use Rattle.std.proofs.lemmas.Bool.{and_parts, cases_Bool, cases_lt, le-leb, leb-true, not-true}
use Rattle.std.proofs.lemmas.Bool.Decides.{nat_tests}
use Rattle.evac_law.specs.declared.model.Model.{Model}
use Rattle.evac_law.specs.declared.plan.Move.{Move}
use Rattle.evac_law.specs.Building.{IsValid, arc_at, arrival, capacity, entered_by, entry, head, is_exit_at, people, rate, start, tail}
use Rattle.evac_law.specs.Certificates.{IsCertified}
use Rattle.evac_law.specs.LabelTable.{LabelTable}
use Rattle.evac_law.specs.Cuts.{Cut, cut_value, leaves_cut}
use Rattle.evac_law.specs.Plans.{IsFeasible, out_by}
use Rattle.evac_law.specs.Sums.{below, moments_to, places}
use Rattle.evac_law.proofs.Entries.{entered_all, entries_le, exit_entry}
use Rattle.evac_law.proofs.Optimal.{certified_is_best, certified_is_feasible, out_le_out, out_le_people}
use Rattle.evac_law.proofs.SumLemmas.{cond_zero, pick_le, sum2-le, sum_below-same, sum_by-add, sum_by-exchange, sum_by-nothing, sum_by-same, sum_by-times}
use Rattle.evac_law.proofs.ValidLemmas.{node_is}
use Rattle.evac_law.proofs.WeakDuality.{out_le_value}
use Rattle.building_laws.specs.Delays.{HasRoomForAll}
use Rattle.building_laws.specs.Duality.{IsBestAt}
use Rattle.building_laws.specs.Finer.{AgreeByPeriods, FinerClearsWithin, IsFiner, IsInShorterPeriods}
use Rattle.building_laws.specs.Rooms.{HasRoomForEntries}
use Rattle.building_laws.proofs.Counts.{found, misses, termwise}
use Rattle.building_laws.proofs.Duality.{cleared_or_short, cut_of}
use Rattle.building_laws.proofs.Periods.{by_parts, coarse_arc, coarse_node, constant, first_alone, start_node, times_next}
use Rattle.building_laws.proofs.Plain.{nobody_later_has_room, start_alone}
use Rattle.building_laws.proofs.WaitingCut.{Settled, drop, drops, nodes_and_arcs, of_arc, of_node}

pub is_le : (a b : ℕ) → leb a b ≡ true → a ≤ b
is_le a b e = grind (arith, nat_tests)

module _ (m f : Model) (q : ℕ) (finer : IsFiner m f q) where
  -- the cut of longer periods that is one of shorter ones at a part of each period
  abbrev pub at_part : Cut → ℕ → Cut
  at_part y j n t = y n (q * t + j)

  -- ---- who comes in

  -- the entries of a node are those of its periods
  pub entries_same : (n k z : ℕ) → z + 1 ≡ q * (k + 1) → sum_by (entry f n) (moments_to z) ≡ sum_by (entry m n) (moments_to k)
  entries_same n k z last = go q refl
    where
      at_zero : (t : ℕ) → q * t + 0 ≡ q * t
      at_zero t = omega arith

      go : (w : ℕ) → w ≡ q → sum_by (entry f n) (moments_to z) ≡ sum_by (entry m n) (moments_to k)
      go zero e = absurd (omega (arith, finer.some, e))
      go (suc p) e =
          omega (
            arith,
            ap (λ i. sum_by (entry f n) (below i)) last,
            by_parts (entry f n) q (k + 1),
            ap (λ i. sum_by (λ t. sum_by (λ j. entry f n (q * t + j)) (below i)) (below (k + 1))) e,
            sum_below-same (λ t. sum_by (λ j. entry f n (q * t + j)) (below (suc p))) (entry m n) (k + 1)
                (λ t _. first_alone (λ j. entry f n (q * t + j)) p (λ j s l. finer.between n t j s (omega (arith, l, e))) ∙ ap (entry f n) (at_zero t) ∙ finer.entries n t),
          )

  pub people_same : IsValid m → IsValid f → people m ≡ people f
  unfolding entered_by
  people_same valid valid' =
      omega (
        arith,
        entered_all m valid,
        entered_all f valid',
        sum_by-same (λ n. sum_by (entry f n) (moments_to f.horizon)) (λ n. sum_by (entry m n) (moments_to m.horizon)) (places m.nodes)
            (λ n. entries_same n m.horizon f.horizon finer.horizon),
        ap (λ i. sum_by (λ n. sum_by (entry f n) (moments_to f.horizon)) (below i)) finer.shape.places,
      )

  pub room_too : HasRoomForEntries m → HasRoomForEntries f
  room_too room n l =
      omega (arith, entries_same n m.horizon f.horizon finer.horizon, room n (omega (arith, l, finer.shape.places)), finer.capacities n)

  -- the end of a period is in the horizon of the shorter ones
  pub end_in_horizon : (k z : ℕ) → k ≤ m.horizon → z + 1 ≡ q * (k + 1) → z ≤ f.horizon
  end_in_horizon k z l last =
      let next : k + 1 ≤ m.horizon + 1 = omega (arith, l) in
      omega (arith, last, finer.horizon, mul-le-mul_left q next)

  -- ---- from a cut of shorter periods

  module _ (k z : ℕ) (l : k ≤ m.horizon) (last : z + 1 ≡ q * (k + 1)) (y : Cut)
      (nodes : (j n : ℕ) → j < q → n < length m.nodes → of_node m k (at_part y j) n ≤ of_node f z y n)
      (leaves : (a t j : ℕ) → j < q → leaves_cut m (at_part y j) k t a ≡ true → leaves_cut f y z (q * t + j) a ≡ true) where
    one_arc : (u v : Bool) (r w : ℕ) → (u ≡ true → v ≡ true) → r ≡ q * w → cond u r 0 ≤ q * cond v w 0
    one_arc false v r w h e = omega arith
    one_arc true v r w h e = rw (h refl) (omega (arith, e))

    all_nodes : sum_by (λ j. sum_by (of_node m k (at_part y j)) (places m.nodes)) (below q) ≤ q * sum_by (of_node f z y) (places m.nodes)
    all_nodes =
        omega (
          arith,
          termwise (λ j. sum_by (of_node m k (at_part y j)) (places m.nodes)) (λ _. sum_by (of_node f z y) (places m.nodes)) q
              (λ j i. termwise (of_node m k (at_part y j)) (of_node f z y) (length m.nodes) (λ n b. nodes j n i b)),
          constant (sum_by (of_node f z y) (places m.nodes)) q,
        )

    arc_parts : (a : ℕ) → a < length m.arcs → sum_by (λ j. of_arc m k (at_part y j) a) (below q) ≤ q * of_arc f z y a
    arc_parts a i =
        let h = λ (s : ℕ). cond (leaves_cut f y z s a) (rate f a s) 0 in
        omega (
          arith,
          sum_by-exchange (λ j t. cond (leaves_cut m (at_part y j) k t a) (rate m a t) 0) (below q) (moments_to k),
          sum2-le (k + 1) q (λ t j. cond (leaves_cut m (at_part y j) k t a) (rate m a t) 0) (λ t j. q * h (q * t + j))
              (λ t j b c. one_arc (leaves_cut m (at_part y j) k t a) (leaves_cut f y z (q * t + j) a) (rate m a t) (rate f a (q * t + j))
              (leaves a t j c) (finer.rates a t j i (omega (arith, b, l)) c)),
          sum_by-same (λ t. sum_by (λ j. q * h (q * t + j)) (below q)) (λ t. q * sum_by (λ j. h (q * t + j)) (below q)) (moments_to k)
              (λ t. sum_by-times q (λ j. h (q * t + j)) (below q)),
          sum_by-times q (λ t. sum_by (λ j. h (q * t + j)) (below q)) (moments_to k),
          ap (λ i. q * sum_by h (below i)) last,
          ap (λ v. q * v) (by_parts h q (k + 1)),
        )

    all_arcs : sum_by (λ j. sum_by (of_arc m k (at_part y j)) (places m.arcs)) (below q) ≤ q * sum_by (of_arc f z y) (places m.arcs)
    all_arcs =
        omega (
          arith,
          sum_by-exchange (λ j a. of_arc m k (at_part y j) a) (below q) (places m.arcs),
          termwise (λ a. sum_by (λ j. of_arc m k (at_part y j) a) (below q)) (λ a. q * of_arc f z y a) (length m.arcs) arc_parts,
          sum_by-times q (of_arc f z y) (places m.arcs),
        )

    -- whoever is bounded by the cut of each part is bounded by the cut of shorter periods
    pub from_parts : (o : ℕ) → ((j : ℕ) → o ≤ cut_value m (at_part y j) k) → o ≤ cut_value f y z
    from_parts o bound =
        let value : q * cut_value f y z ≡ q * sum_by (of_node f z y) (places m.nodes) + q * sum_by (of_arc f z y) (places m.arcs) =
        omega (
          arith,
          ap (λ v. q * v) (nodes_and_arcs f z y),
          ap (λ i. q * sum_by (of_node f z y) (below i)) finer.shape.places,
          ap (λ i. q * sum_by (of_arc f z y) (below i)) finer.shape.arcs,
        ) in
        let all : q * o ≤ q * cut_value f y z =
        omega (
          arith,
          value,
          constant o q,
          termwise (λ _. o) (λ j. sum_by (of_node m k (at_part y j)) (places m.nodes) + sum_by (of_arc m k (at_part y j)) (places m.arcs)) q
              (λ j _. omega (arith, bound j, nodes_and_arcs m k (at_part y j))),
          sum_by-add (λ j. sum_by (of_node m k (at_part y j)) (places m.nodes)) (λ j. sum_by (of_arc m k (at_part y j)) (places m.arcs)) (below q),
          all_nodes,
          all_arcs,
        ) in
        le_of_mul-le-mul_left all (omega (arith, finer.some))

  -- ---- from a cut of longer periods

  module _ (k z : ℕ) (l : k ≤ m.horizon) (last : z + 1 ≡ q * (k + 1)) (x y : Cut) (same : (n t j : ℕ) → j < q → y n (q * t + j) ≡ x n t)
      (leaves : (a t j : ℕ) → j < q → leaves_cut f y z (q * t + j) a ≡ true → leaves_cut m x k t a ≡ true) where
    node_coarse : (n : ℕ) → of_node f z y n ≤ of_node m k x n
    node_coarse n = go q refl
      where
        go : (w : ℕ) → w ≡ q → of_node f z y n ≤ of_node m k x n
        go zero e = absurd (omega (arith, finer.some, e))
        go (suc p) e =
            omega (
              arith,
              coarse_node (x n) (y n) (capacity m n) p
                  (λ t j s. ap (λ i. y n (i * t + j)) e ∙ same n t j (omega (arith, s, e)))
                  (entry m n) (entry f n) k z
                  (λ t. ap (λ i. entry f n (i * t)) e ∙ finer.entries n t)
                  (λ t j s b. ap (λ i. entry f n (i * t + j)) e ∙ finer.between n t j s (omega (arith, b, e)))
                  (last ∙ ap (λ i. i * (k + 1)) (sym e)),
              ap (λ c. sum_by (λ t. cond (y n t && not (y n (t + 1))) c 0) (below z)) (finer.capacities n),
            )

    arc_coarse : (a : ℕ) → a < length m.arcs → of_arc f z y a ≤ of_arc m k x a
    arc_coarse a i =
        coarse_arc (λ s. leaves_cut f y z s a) (λ t. leaves_cut m x k t a) (rate f a) (rate m a) q k z finer.some last
        (λ t j _ b. leaves a t j b) (λ t j b c. finer.rates a t j i (omega (arith, b, l)) c)

    pub value_coarse : cut_value f y z ≤ cut_value m x k
    value_coarse =
        omega (
          arith,
          nodes_and_arcs f z y,
          nodes_and_arcs m k x,
          ap (λ i. sum_by (of_node f z y) (below i)) finer.shape.places,
          ap (λ i. sum_by (of_arc f z y) (below i)) finer.shape.arcs,
          termwise (of_node f z y) (of_node m k x) (length m.nodes) (λ n _. node_coarse n),
          termwise (of_arc f z y) (of_arc m k x) (length m.arcs) arc_coarse,
        )

  -- ---- moments and their parts

  pub later : (t j k z : ℕ) → j < q → t ≤ k → z + 1 ≡ q * (k + 1) → q * t + j ≤ z
  later t j k z s l last = omega (arith, s, last, times_next q k, mul-le-mul_left q l)

  pub sooner : (t s k z : ℕ) → s ≤ z → z + 1 ≡ q * (k + 1) → q * t ≤ s → t ≤ k
  sooner t s k z l last below = elim (cases_lt k t) [
    | inl late ↦ let next : k + 1 ≤ t = omega (arith, late) in absurd (omega (arith, l, last, below, mul-le-mul_left q next))
    | inr in_time ↦ in_time
  ]

  pub of_part : (t j : ℕ) → j < q → (q * t + j) / q ≡ t
  of_part t j l = omega (arith, mul-add-div {m = q} (omega (arith, finer.some)) t j, div-eq_of_lt l)

  -- ---- a node that stays in the cut once it is in it

  module _ (k z : ℕ) (last : z + 1 ≡ q * (k + 1)) (y : Cut) (n : ℕ) (grows : (s t : ℕ) → s ≤ t → t ≤ z → y n s ≡ true → y n t ≡ true) where
    late_entry : (u v : Bool) (e e' : ℕ) → (u ≡ true → v ≡ true) → e ≡ e' → cond (v || eqb e 0) 0 e ≤ cond (u || eqb e' 0) 0 e'
    late_entry u v e e' h s = grind (arith, nat_tests)

    stays : (u v : Bool) (c : ℕ) → (u ≡ true → v ≡ true) → cond (u && not v) c 0 ≤ 0
    stays u v c h = grind arith

    grown_entries : (j : ℕ) → j < q
        → sum_by (λ t. cond (y n (q * t + j) || eqb (entry m n t) 0) 0 (entry m n t)) (moments_to k)
        ≤ sum_by (λ s. cond (y n s || eqb (entry f n s) 0) 0 (entry f n s)) (moments_to z)
    grown_entries j small =
        let h = λ (s : ℕ). cond (y n s || eqb (entry f n s) 0) 0 (entry f n s) in
        omega (
          arith,
          ap (λ i. sum_by h (below i)) last,
          by_parts h q (k + 1),
          termwise (λ t. cond (y n (q * t + j) || eqb (entry m n t) 0) 0 (entry m n t)) (λ t. sum_by (λ i. h (q * t + i)) (below q)) (k + 1)
              (λ t b.
              let at : q * t + 0 ≡ q * t = omega arith in
              omega (
                arith,
                late_entry (y n (q * t)) (y n (q * t + j)) (entry m n t) (entry f n (q * t))
                    (grows (q * t) (q * t + j) (omega arith) (later t j k z small (omega (arith, b)) last)) (sym (finer.entries n t)),
                ap h at,
                pick_le (λ i. h (q * t + i)) q 0 (omega (arith, finer.some)),
              )),
        )

    grown_holds : (j : ℕ) → j < q → sum_by (λ t. cond (y n (q * t + j) && not (y n (q * (t + 1) + j))) (capacity m n) 0) (below k) ≤ 0
    grown_holds j small =
        omega (
          arith,
          termwise (λ t. cond (y n (q * t + j) && not (y n (q * (t + 1) + j))) (capacity m n) 0) (λ _. 0) k
              (λ t b. stays (y n (q * t + j)) (y n (q * (t + 1) + j)) (capacity m n)
              (grows (q * t + j) (q * (t + 1) + j) (omega (arith, times_next q t)) (later (t + 1) j k z small (omega (arith, b)) last))),
          sum_by-nothing (below k),
        )

    pub grown_node : (j : ℕ) → j < q → of_node m k (at_part y j) n ≤ of_node f z y n
    grown_node j small = omega (arith, grown_entries j small, grown_holds j small)

pub leave : (u u' i i' e e' h h' : Bool) → (u ≡ true → u' ≡ true) → (i ≡ true → i' ≡ true) → e ≡ e' → (h ≡ false → h' ≡ false)
    → (u && (i && (e || not h))) ≡ true → (u' && (i' && (e' || not h'))) ≡ true
leave u u' i i' e e' h h' a b c d s = grind arith

-- ---- the same travel times

module _ (m f : Model) (q : ℕ) (valid : IsValid m) (valid' : IsValid f) (finer : IsFiner m f q)
    (travels : (a : ℕ) → (arc_at f a).travel ≡ q * (arc_at m a).travel) where
  arrives : (a t j : ℕ) → q * (t + (arc_at m a).travel) + j ≡ (q * t + j) + (arc_at f a).travel
  arrives a t j = omega (arith, travels a)

  part_leaves : (y : Cut) (k z : ℕ) → z + 1 ≡ q * (k + 1) → (a t j : ℕ) → j < q → leaves_cut m (at_part m f q finer y j) k t a ≡ true → leaves_cut f y z (q * t + j) a ≡ true
  part_leaves y k z last a t j s =
      leave (y (tail m a) (q * t + j)) (y (tail f a) (q * t + j)) (leb (arrival m a t) k) (leb (arrival f a (q * t + j)) z)
      (is_exit_at m (head m a)) (is_exit_at f (head f a))
      (y (head m a) (q * arrival m a t + j)) (y (head f a) (arrival f a (q * t + j)))
      (λ e. ap (λ n. y n (q * t + j)) (sym (finer.shape.tails a)) ∙ e)
      (λ e. le-leb (arrival f a (q * t + j)) z (omega (arith, arrives a t j, later m f q finer (arrival m a t) j k z s (is_le _ _ e) last)))
      (finer.shape.exits (head m a) ∙ ap (is_exit_at f) (finer.shape.heads a))
      (λ e. ap (λ n. y n (arrival f a (q * t + j))) (sym (finer.shape.heads a)) ∙ ap (y (head m a)) (sym (arrives a t j)) ∙ e)

  coarse_bound : (r : List Move) (x : Cut) (k z : ℕ) → k ≤ m.horizon → z + 1 ≡ q * (k + 1) → IsFeasible f r z → out_by f r z ≤ cut_value m x k
  coarse_bound r x k z l last feasible =
      omega (arith, out_le_value f y r z valid' feasible, value_coarse m f q finer k z l last x y same leaves)
    where
      y : Cut
      y n s = x n (s / q)

      same : (n t j : ℕ) → j < q → y n (q * t + j) ≡ x n t
      same n t j s = ap (x n) (of_part m f q finer t j s)

      leaves : (a t j : ℕ) → j < q → leaves_cut f y z (q * t + j) a ≡ true → leaves_cut m x k t a ≡ true
      leaves a t j s =
          leave (y (tail f a) (q * t + j)) (x (tail m a) t) (leb (arrival f a (q * t + j)) z) (leb (arrival m a t) k)
          (is_exit_at f (head f a)) (is_exit_at m (head m a)) (y (head f a) (arrival f a (q * t + j))) (x (head m a) (arrival m a t))
          (λ e. ap (λ n. x n t) (finer.shape.tails a) ∙ sym (same (tail f a) t j s) ∙ e)
          (λ e. le-leb (arrival m a t) k (sooner m f q finer (arrival m a t) (arrival f a (q * t + j)) k z (is_le _ _ e) last (omega (arith, arrives a t j))))
          (ap (is_exit_at f) (sym (finer.shape.heads a)) ∙ sym (finer.shape.exits (head m a)))
          (λ e. ap (λ n. x n (arrival m a t)) (finer.shape.heads a) ∙ sym (same (head f a) (arrival m a t) j s) ∙ ap (y (head f a)) (arrives a t j) ∙ e)

-- ---- nobody comes later

module _ (m f : Model) (q : ℕ) (valid : IsValid m) (valid' : IsValid f) (finer : IsFiner m f q)
    (travels : (a : ℕ) → (arc_at f a).travel ≡ q * (arc_at m a).travel) (nobody : m.entrants ≡ []) where
  none : (n t : ℕ) → 0 < t → entry m n t ≡ 0
  none n t s = start_alone m n t nobody ∙ not_first t s
    where
      not_first : (t : ℕ) → 0 < t → cond (eqb t 0) (start m n) 0 ≡ 0
      not_first t s = grind (arith, nat_tests)

  none_finer : (n s : ℕ) → 0 < s → entry f n s ≡ 0
  none_finer n s some = go (s / q) (s % q) (sym (div-add-mod s q)) (mod-lt s (omega (arith, finer.some)))
    where
      later_than : (t : ℕ) → s ≡ q * t → 0 < t
      later_than zero e = absurd (omega (arith, some, e, mul-zero q))
      later_than (suc t) e = omega arith

      go : (t j : ℕ) → s ≡ q * t + j → j < q → entry f n s ≡ 0
      go t zero e small =
          let at : s ≡ q * t = omega (arith, e) in
          ap (entry f n) at ∙ finer.entries n t ∙ none n t (later_than t at)
      go t (suc j) e small = ap (entry f n) e ∙ finer.between n t (suc j) (omega arith) small

  -- every cut of shorter periods bounds the plans of longer ones
  finer_bound : (p : List Move) (y : Cut) (k z : ℕ) → k ≤ m.horizon → z + 1 ≡ q * (k + 1) → IsFeasible m p k → out_by m p k ≤ cut_value f y z
  finer_bound p y k z l last feasible =
      from_parts m f q finer k z l last y nodes (part_leaves m f q valid valid' finer travels y k z last) (out_by m p k) (λ j. out_le_value m (at_part m f q finer y j) p k valid feasible)
    where
      nodes : (j n : ℕ) → j < q → n < length m.nodes → of_node m k (at_part m f q finer y j) n ≤ of_node f z y n
      nodes j n s i =
          let first : q * 0 ≡ 0 = omega arith in
          let one : entry f n 0 ≡ entry m n 0 = ap (entry f n) (sym first) ∙ finer.entries n 0 in
          omega (
            arith,
            start_node (y n) (capacity m n) q j (entry m n) (entry f n) k z (none n) (none_finer n) one (node_is m n valid i).start_fits s last,
            ap (λ c. sum_by (λ t. cond (y n t && not (y n (t + 1))) c 0) (below z)) (finer.capacities n),
          )

-- ---- each node has room for everybody

module _ (m f : Model) (q : ℕ) (valid : IsValid m) (valid' : IsValid f) (finer : IsFiner m f q)
    (travels : (a : ℕ) → (arc_at f a).travel ≡ q * (arc_at m a).travel) (large : HasRoomForAll m) where
  large_enough : HasRoomForEntries m
  large_enough n i = elim (cases_Bool (is_exit_at m n)) [
    | inr inner ↦ omega (arith, entries_le m n m.horizon i, large n i inner)
    | inl exit ↦
        let nobody = sum_by-same (entry m n) (λ _. 0) (moments_to m.horizon) (λ t. exit_entry m n t valid i exit) ∙ sum_by-nothing (moments_to m.horizon) in
        omega (arith, nobody)
  ]

  module _ (y : Cut) (k z : ℕ) (l : k ≤ m.horizon) (last : z + 1 ≡ q * (k + 1)) where
    -- a node that the cut leaves by waiting
    abbrev left_by_waiting : ℕ → Bool
    left_by_waiting n = not (is_exit_at m n) && leb (capacity m n) (sum_by (drop (y n) (capacity m n)) (below z))

    paid : (n : ℕ) → n < length m.nodes → left_by_waiting n ≡ true → people m ≤ cut_value f y z
    paid n i e =
        let parts = and_parts (not (is_exit_at m n)) (leb (capacity m n) (sum_by (drop (y n) (capacity m n)) (below z))) e in
        omega (
          arith,
          large n i (not-true (is_exit_at m n) parts.0),
          leb-true (capacity m n) (sum_by (drop (y n) (capacity m n)) (below z)) parts.1,
          ap (λ c. sum_by (λ t. cond (y n t && not (y n (t + 1))) c 0) (below z)) (finer.capacities n),
          pick_le (of_node f z y) (length f.nodes) n (omega (arith, i, finer.shape.places)),
          nodes_and_arcs f z y,
        )

    never_left : (b : Bool) (c s : ℕ) → (not b && leb c s) ≡ false → b ≡ false → c ≤ s → ⊥
    never_left b c s e f l = grind (arith, nat_tests)

    none_at : (i : Bool) (e : ℕ) → e ≡ 0 → cond (i || eqb e 0) 0 e ≤ 0
    none_at i e h = grind (arith, nat_tests)

    of_exit : (x : Cut) (n : ℕ) → n < length m.nodes → is_exit_at m n ≡ true → of_node m k x n ≤ 0
    of_exit x n i exit =
        omega (
          arith,
          termwise (λ t. cond (x n t || eqb (entry m n t) 0) 0 (entry m n t)) (λ _. 0) (k + 1)
              (λ t _. none_at (x n t) (entry m n t) (exit_entry m n t valid i exit)),
          termwise (λ t. cond (x n t && not (x n (t + 1))) (capacity m n) 0) (λ _. 0) k
              (λ t _. cond_zero (x n t && not (x n (t + 1))) (capacity m n) ((node_is m n valid i).exit_is_empty exit)),
          sum_by-nothing (below (k + 1)),
          sum_by-nothing (below k),
        )

    settled_grows : (b : ℕ → Bool) (c : ℕ) → Settled b c z → (s t : ℕ) → s ≤ t → t ≤ z → b s ≡ true → b t ≡ true
    settled_grows b c is s t l e h =
        is t e ∙ le-leb (misses b (z + 1)) t (omega (arith, l, is_le (misses b (z + 1)) s (sym (is s (omega (arith, l, e))) ∙ h)))

    pub roomy_bound : (p : List Move) → IsFeasible m p k → out_by m p k ≤ cut_value f y z
    roomy_bound p feasible = elim (found left_by_waiting (length m.nodes)) [
      | inl some ↦ omega (arith, paid some.0 some.1 some.2, out_le_people m p k valid feasible)
      | inr never ↦
          let nodes : (j n : ℕ) → j < q → n < length m.nodes → of_node m k (at_part m f q finer y j) n ≤ of_node f z y n =
          λ j n s i. elim (cases_Bool (is_exit_at m n)) [
            | inl exit ↦ omega (arith, of_exit (at_part m f q finer y j) n i exit)
            | inr inner ↦ elim (drops (y n) (capacity m n) z) [
              | inl pays ↦ absurd (never_left (is_exit_at m n) (capacity m n) (sum_by (drop (y n) (capacity m n)) (below z)) (never n i) inner pays)
              | inr is ↦ grown_node m f q finer k z last y n (settled_grows (y n) (capacity m n) is) j s
            ]
          ] in
          from_parts m f q finer k z l last y nodes (part_leaves m f q valid valid' finer travels y k z last) (out_by m p k)
          (λ j. out_le_value m (at_part m f q finer y j) p k valid feasible)
    ]

-- ---- either of both

module _ (m f : Model) (q : ℕ) (valid : IsValid m) (valid' : IsValid f) (shorter : IsInShorterPeriods m f q)
    (quiet : (m.entrants ≡ []) ⊎ HasRoomForAll m) where
  abbrev finer : IsFiner m f q
  finer = shorter.finer

  room_then : HasRoomForEntries m
  room_then = elim quiet [
    | inl nobody ↦ nobody_later_has_room m valid nobody
    | inr large ↦ large_enough m f q valid valid' finer shorter.travels large
  ]

  either_bound : (p : List Move) (y : Cut) (k z : ℕ) → k ≤ m.horizon → z + 1 ≡ q * (k + 1) → IsFeasible m p k → out_by m p k ≤ cut_value f y z
  either_bound p y k z l last feasible = elim quiet [
    | inl nobody ↦ finer_bound m f q valid valid' finer shorter.travels nobody p y k z l last feasible
    | inr large ↦ roomy_bound m f q valid valid' finer shorter.travels large y k z l last p feasible
  ]

  pub finer_periods_agree : AgreeByPeriods m f q
  finer_periods_agree =
      let room = room_then in
      let all = people_same m f q finer valid valid' in record {
        curve = λ p r k z l last best best'.
            let y = cut_of f r z valid' (end_in_horizon m f q finer k z l last) best' in
            let x = cut_of m p k valid l best in
            omega (arith, either_bound p y.0 k z l last best.feasible, y.1, coarse_bound m f q valid valid' finer shorter.travels r x.0 k z l last best'.feasible, x.1);
        clears = λ plan. elim (cleared_or_short f valid' (room_too m f q finer room)) [
          | inl cleared ↦ cleared
          | inr short ↦ absurd (omega (arith, either_bound plan.0 short.0 m.horizon f.horizon (omega arith) finer.horizon plan.1, plan.2, short.1, all))
        ];
        clears_back = λ plan. elim (cleared_or_short m valid room) [
          | inl cleared ↦ cleared
          | inr short ↦ absurd (omega (arith, coarse_bound m f q valid valid' finer shorter.travels plan.0 short.0 m.horizon f.horizon (omega arith) finer.horizon plan.1, plan.2, short.1, all))
        ];
      }

-- ---- the clearing moment

pub best_of_certified : (m : Model) (p : List Move) (l : LabelTable) (c k : ℕ) → IsValid m → IsCertified m p l c → IsBestAt m p k
best_of_certified m p l c k valid good = record {
  feasible = certified_is_feasible m p l c k valid good;
  most = λ o by. certified_is_best m p l c valid good o k by;
}

-- a plan clears between two in long periods, if its curve lies between theirs at the end of each
module _ (slow f fast : Model) (q : ℕ) (some : 1 ≤ q) (s r p : List Move) (j i l : LabelTable) (c d b : ℕ)
    (good_slow : IsCertified slow s j c) (good : IsCertified f r i d) (good_fast : IsCertified fast p l b)
    (people_slow : people slow ≡ people f) (people_fast : people fast ≡ people f)
    (no_fewer : (k z : ℕ) → k ≤ slow.horizon → z + 1 ≡ q * (k + 1) → out_by slow s k ≤ out_by f r z)
    (no_more : (k z : ℕ) → k ≤ fast.horizon → z + 1 ≡ q * (k + 1) → out_by f r z ≤ out_by fast p k) where
  in_time : (z : ℕ) → z + 1 ≡ q * (c + 1) → d ≤ z
  in_time z last = elim (cases_lt z d) [
    | inl late ↦
        absurd (omega (
          arith,
          good.least (d - 1) (omega (arith, late)),
          out_le_out f r z (d - 1) (omega (arith, late)),
          no_fewer c z good_slow.in_horizon last,
          good_slow.all_out,
          people_slow,
        ))
    | inr soon ↦ soon
  ]

  not_before : (y : ℕ) → 0 < b → y + 1 ≡ q * ((b - 1) + 1) → y < d
  not_before y late last = elim (cases_lt y d) [
    | inl later ↦ later
    | inr soon ↦
        absurd (omega (
          arith,
          good_fast.least (b - 1) (omega (arith, late)),
          out_le_out f r d y soon,
          no_more (b - 1) y (omega (arith, good_fast.in_horizon)) last,
          good.all_out,
          people_fast,
        ))
  ]

  pub clears_between : (q * b ≤ d) × (d + 1 ≤ q * (c + 1))
  clears_between = go q refl
    where
      go : (w : ℕ) → w ≡ q → (q * b ≤ d) × (d + 1 ≤ q * (c + 1))
      go zero e = absurd (omega (arith, some, e))
      go (suc v) e =
          let last : (q * c + v) + 1 ≡ q * (c + 1) = omega (arith, times_next q c, e) in (
            elim (cases_lt 0 b) [
              | inl late ↦
                  let next : (b - 1) + 1 ≡ b = omega (arith, late) in
                  let there : q * ((b - 1) + 1) ≡ q * b = ap (λ x. q * x) next in
                  let end : (q * (b - 1) + v) + 1 ≡ q * ((b - 1) + 1) = omega (arith, times_next q (b - 1), e) in
                  omega (arith, not_before (q * (b - 1) + v) late end, end, there)
              | inr none ↦ let first : b ≡ 0 = omega (arith, none) in omega (arith, ap (λ x. q * x) first, mul-zero q)
            ],
            omega (arith, in_time (q * c + v) last, last),
          )

pub finer_clears_within : FinerClearsWithin
finer_clears_within m f q valid valid' shorter quiet p r l i c d good good' =
    let all = people_same m f q shorter.finer valid valid' in
    clears_between m f m q shorter.finer.some p r p l i l c d c good good' good all all
    (λ k z s last. omega (arith, same k z s last)) (λ k z s last. omega (arith, same k z s last))
  where
    same : (k z : ℕ) → k ≤ m.horizon → z + 1 ≡ q * (k + 1) → out_by m p k ≡ out_by f r z
    same k z s last =
        (finer_periods_agree m f q valid valid' shorter quiet).curve p r k z s last
        (best_of_certified m p l c k valid good) (best_of_certified f r i d z valid' good')
