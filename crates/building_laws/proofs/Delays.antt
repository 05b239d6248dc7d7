-- A cut of a building with other rates, w moments later, is worth no less than one of the building itself.
use Rattle.std.proofs.Common.{◌≡◌, ◌≢◌, ℕ, ◌+◌, ◌<◌, ◌≤◌, Bool, true, cond, ◌&&◌, eqb, List, [], length, get_or, ap, ap₂, arith}
use Rattle.std.specs.List.{sum_by}
use Rattle.std.proofs.Math.Nat.{mul-le-mul_left}
use Rattle.std.proofs.lemmas.Bool.{cases_eq, eqb-true}
use Rattle.evac_law.specs.declared.model.Model.{Model}
use Rattle.evac_law.specs.declared.plan.Move.{Move}
use Rattle.evac_law.specs.Building.{IsValid, arc_at, capacity, entry, head, is_exit_at, no_node, people, rate, tail}
use Rattle.evac_law.specs.Cuts.{Cut, cut_value, leaves_cut}
use Rattle.evac_law.specs.Names.{is_exit}
use Rattle.evac_law.specs.Plans.{IsFeasible, out_by}
use Rattle.evac_law.specs.Sums.{below}
use Rattle.evac_law.proofs.Optimal.{out_le_people}
use Rattle.evac_law.proofs.SumLemmas.{sum_below-same, sum_by-add, sum_moments-le}
use Rattle.evac_law.proofs.Thinned.{all_out_is_clearable}
use Rattle.evac_law.proofs.WeakDuality.{out_le_value}
use Rattle.building_laws.specs.Delays.{DelaysBy, DifferInRates, IsDisturbed}
use Rattle.building_laws.specs.Duality.{IsBestAt}
use Rattle.building_laws.specs.Rooms.{HasRoomForEntries, HasSteadyRates}
use Rattle.building_laws.proofs.Counts.{count, hits_and_misses, termwise}
use Rattle.building_laws.proofs.Duality.{best_of, cut_of, staying}
use Rattle.building_laws.proofs.Gaps.{arc_shrinks, arc_worth, few_fewer, fewer, gap, gap_closes, gap_is, node_shrinks}
use Rattle.building_laws.proofs.WaitingCut.{arc_le, from_moments, moments_outside, nodes_and_arcs, of_arc, of_node, rate_times, waiting_arc, waiting_node}

-- ---- the same but for rates

module _ (m m' : Model) (d : DifferInRates m m') where
  entry_same : (n t : ℕ) → entry m n t ≡ entry m' n t
  entry_same n t = ap₂ (λ ns es. entry (record m { nodes = ns; entrants = es }) n t) d.nodes d.entrants

  capacity_same : (n : ℕ) → capacity m n ≡ capacity m' n
  capacity_same n = ap (λ l. (get_or l n no_node).capacity) d.nodes

  exit_same : (n : ℕ) → is_exit_at m n ≡ is_exit_at m' n
  exit_same n = ap (λ l. is_exit (get_or l n no_node).name.kind) d.nodes

  people_same : people m ≡ people m'
  unfolding people
  people_same = ap₂ (λ ns es. sum_by (λ n. n.start) ns + sum_by (λ e. e.people) es) d.nodes d.entrants

  room_too : HasRoomForEntries m → HasRoomForEntries m'
  room_too room n i = grind (arith, sum_below-same, entry_same, capacity_same)

  pub leaves_same : (x : Cut) (k t a : ℕ) → leaves_cut m x k t a ≡ leaves_cut m' x k t a
  leaves_same x k t a = grind (arith, exit_same)

  pub node_same : (x : Cut) (k n : ℕ) → of_node m k x n ≡ of_node m' k x n
  node_same x k n = grind (arith, sum_below-same, entry_same, capacity_same)

  -- w moments later a cut of the second model takes at least what one takes of the first that leaves out moments from c on
  module _ (steady : HasSteadyRates m) (room : HasRoomForEntries m) (x : Cut) (k w c : ℕ) (l : k + w ≤ m.horizon) where
    abbrev pub f : ℕ → ℕ
    f = moments_outside x (k + w)

    pub few_f : (n : ℕ) → f n ≤ (k + w) + 1
    few_f n = omega (arith, hits_and_misses (x n) ((k + w) + 1))

    abbrev pub g : ℕ → ℕ
    g = fewer m k w c f few_f

    pub few_g : (n : ℕ) → g n ≤ k + 1
    few_g = few_fewer m k w c f few_f

    node_part : (n : ℕ) → n < length m.nodes → of_node m k (from_moments g) n ≤ of_node m' (k + w) x n
    node_part n i = omega (arith, node_shrinks m k w c f few_f n, waiting_node m x (k + w) l steady room n i, node_same x (k + w) n)

    -- where it does so of the arcs
    pub delayed_cut : ((a : ℕ) → a < length m.arcs → of_arc m k (from_moments g) a ≤ of_arc m' (k + w) x a)
        → cut_value m (from_moments g) k ≤ cut_value m' x (k + w)
    delayed_cut arc_part = grind (arith, nodes_and_arcs, from_moments, termwise, of_node, node_part, of_arc, arc_part)

  -- a best plan of the second model has w moments later as many out as any of the first, where each cut bounds those so
  module _ (w : ℕ) (valid' : IsValid m') (room : HasRoomForEntries m)
      (bound : (p : List Move) (x : Cut) (k : ℕ) → k + w ≤ m.horizon → IsFeasible m p k → out_by m p k ≤ cut_value m' x (k + w)) where
    later : (p q : List Move) (k : ℕ) → k + w ≤ m.horizon → IsFeasible m p k → IsBestAt m' q (k + w) → out_by m p k ≤ out_by m' q (k + w)
    later p q k l feasible best =
        let x = cut_of m' q (k + w) valid' (omega (arith, l, d.horizon)) best in
        omega (arith, bound p x.0 k l feasible, x.1)

    pub delayed : DelaysBy m m' w
    delayed = record {
      later = later;
      clears = λ p k l feasible all_out.
          let in_time : k + w ≤ m'.horizon = omega (arith, l, d.horizon) in
          let q = best_of m' [] (k + w) valid' in_time (staying m' (k + w) (room_too room) in_time) in
          all_out_is_clearable m' q.0 (k + w) valid' in_time q.1.feasible
          (omega (arith, later p q.0 k l feasible q.1, all_out, people_same, out_le_people m' q.0 (k + w) valid' q.1.feasible));
    }

-- ---- one arc

-- what is taken where the rate is the usual one
usual : (b s : Bool) → cond b 1 0 ≤ cond (b && s) 1 0 + cond s 0 1
usual b s = grind arith

usual_rate : (b s : Bool) (u r : ℕ) → (s ≡ true → u ≡ r) → cond (b && s) r 0 ≤ cond b u 0
usual_rate b s u r h = grind arith

module _ (m m' : Model) (a w : ℕ) (d : IsDisturbed m m' a w) (steady : HasSteadyRates m) (room : HasRoomForEntries m) (x : Cut) (k : ℕ)
    (l : k + w ≤ m.horizon) where
  -- when the cut has each node, and when the cut does that leaves out w moments from then on that it has the arc's tail
  abbrev outside : ℕ → ℕ
  outside = f m m' d.alike steady room x k w 0 l

  few : (n : ℕ) → outside n ≤ (k + w) + 1
  few = few_f m m' d.alike steady room x k w 0 l

  abbrev pub later_cut : ℕ → ℕ
  later_cut = g m m' d.alike steady room x k w (f m m' d.alike steady room x k w 0 l (tail m a)) l

  few_later : (n : ℕ) → later_cut n ≤ k + 1
  few_later = few_g m m' d.alike steady room x k w (outside (tail m a)) l

  other_arc : (b : ℕ) → b < length m.arcs → b ≢ a → of_arc m k (from_moments later_cut) b ≤ of_arc m' (k + w) x b
  other_arc b i apart =
      omega (
        arith,
        arc_shrinks m k w (outside (tail m a)) outside few l steady b i,
        waiting_arc m x (k + w) l steady room b i,
        sum_below-same (λ t. cond (leaves_cut m x (k + w) t b) (rate m b t) 0) (λ t. cond (leaves_cut m' x (k + w) t b) (rate m' b t) 0) ((k + w) + 1)
            (λ t s. ap₂ (λ y r. cond y r 0) (leaves_same m m' d.alike x (k + w) t b) (d.others b t i apart (omega (arith, s, l)))),
      )

  -- at most w of the crossings of the arc itself are lost
  abbrev kept : ℕ → Bool
  kept t = leaves_cut m x (k + w) t a && eqb (rate m' a t) (rate m a t)

  lost : gap (is_exit_at m (head m a)) (k + w) (arc_at m a).travel (outside (tail m a)) (outside (head m a)) ≤ count kept ((k + w) + 1) + w
  lost =
      omega (
        arith,
        arc_le (x (tail m a)) (x (head m a)) (is_exit_at m (head m a)) (arc_at m a).travel (k + w),
        gap_is (is_exit_at m (head m a)) (k + w) (arc_at m a).travel (outside (tail m a)) (outside (head m a)) (few (head m a)),
        termwise (λ t. cond (leaves_cut m x (k + w) t a) 1 0) (λ t. cond (kept t) 1 0 + cond (eqb (rate m' a t) (rate m a t)) 0 1) ((k + w) + 1)
            (λ t _. usual (leaves_cut m x (k + w) t a) (eqb (rate m' a t) (rate m a t))),
        sum_by-add (λ t. cond (kept t) 1 0) (λ t. cond (eqb (rate m' a t) (rate m a t)) 0 1) (below ((k + w) + 1)),
        sum_moments-le (λ t. cond (eqb (rate m' a t) (rate m a t)) 0 1) (k + w) m.horizon l,
        d.seldom,
      )

  own_arc : a < length m.arcs → of_arc m k (from_moments later_cut) a ≤ of_arc m' (k + w) x a
  own_arc i =
      let r = rate m a 0 in
      let gaps = gap_closes (is_exit_at m (head m a)) k w (arc_at m a).travel (outside (tail m a)) (outside (head m a)) in
      let enough : gap (is_exit_at m (head m a)) k (arc_at m a).travel (later_cut (tail m a)) (later_cut (head m a)) ≤ count kept ((k + w) + 1) =
      omega (arith, gaps, lost) in
      omega (
        arith,
        arc_worth m steady later_cut k a (omega (arith, l)) i few_later,
        mul-le-mul_left r enough,
        rate_times m x (k + w) l steady room a i kept,
        termwise (λ t. cond (kept t) (rate m a t) 0) (λ t. cond (leaves_cut m' x (k + w) t a) (rate m' a t) 0) ((k + w) + 1) (λ t _. each t),
      )
    where
      each : (t : ℕ) → cond (kept t) (rate m a t) 0 ≤ cond (leaves_cut m' x (k + w) t a) (rate m' a t) 0
      each t =
          omega (
            arith,
            usual_rate (leaves_cut m x (k + w) t a) (eqb (rate m' a t) (rate m a t)) (rate m' a t) (rate m a t) (eqb-true (rate m' a t) (rate m a t)),
            ap (λ y. cond y (rate m' a t) 0) (leaves_same m m' d.alike x (k + w) t a),
          )

  arc_part : (b : ℕ) → b < length m.arcs → of_arc m k (from_moments later_cut) b ≤ of_arc m' (k + w) x b
  arc_part b i = grind (arith, cases_eq, own_arc, of_arc, from_moments, other_arc)

  pub disturbed_cut : cut_value m (from_moments later_cut) k ≤ cut_value m' x (k + w)
  disturbed_cut = delayed_cut m m' d.alike steady room x k w (outside (tail m a)) l arc_part

pub one_arc_delays_little : (m m' : Model) (a w : ℕ) → IsValid m → IsValid m' → IsDisturbed m m' a w → HasSteadyRates m → HasRoomForEntries m → DelaysBy m m' w
one_arc_delays_little m m' a w valid valid' d steady room =
    delayed m m' d.alike w valid' room
    (λ p x k l feasible. omega (
      arith,
      out_le_value m (from_moments (later_cut m m' a w d steady room x k l)) p k valid feasible,
      disturbed_cut m m' a w d steady room x k l,
    ))
