-- Halfway between two cuts that are closed under waiting are two that together are worth no more.
use Rattle.std.proofs.Common.{◌≡◌, ℕ, ◌+◌, ◌-◌, ◌/◌, ◌<◌, ◌≤◌, Bool, true, cond, leb, List, [], length, ap, arith, inl, inr}
use Rattle.std.specs.List.{sum_by}
use Rattle.std.proofs.Math.Nat.{mul-le-mul_left}
use Rattle.std.proofs.lemmas.Bool.{cases_lt, le-leb, lt-leb}
use Rattle.evac_law.specs.declared.model.Model.{Model}
use Rattle.evac_law.specs.declared.plan.Move.{Move}
use Rattle.evac_law.specs.Building.{IsValid, arc_at, head, is_exit_at, rate, start, tail}
use Rattle.evac_law.specs.Cuts.{Cut, cut_value}
use Rattle.evac_law.specs.Plans.{IsFeasible, out_by}
use Rattle.evac_law.specs.Sums.{below}
use Rattle.evac_law.proofs.SumLemmas.{pick_le, sum_by-add, sum_by-nothing}
use Rattle.evac_law.proofs.WeakDuality.{out_le_value}
use Rattle.building_laws.specs.Duality.{IsBestAt}
use Rattle.building_laws.specs.Rooms.{HasSteadyRates}
use Rattle.building_laws.proofs.Counts.{hits_and_misses, termwise}
use Rattle.building_laws.proofs.Duality.{cut_of, no_fewer_later}
use Rattle.building_laws.proofs.Gaps.{arc_worth, gap, node_worth}
use Rattle.building_laws.proofs.Plain.{nobody_later_has_room}
use Rattle.building_laws.proofs.WaitingCut.{from_moments, moments_outside, nodes_and_arcs, of_arc, of_node, waiting_cut}

-- ---- halfway

-- two numbers between two others with the same sum, at most one apart
record IsHalf (f g lo hi : ℕ) : Type 0 where
  pub sum : lo + hi ≡ f + g
  pub order : lo ≤ hi
  pub close : hi ≤ lo + 1

halfway : (f g : ℕ) → IsHalf f g ((f + g) / 2) ((f + g) - (f + g) / 2)
halfway f g = record { sum = omega arith; order = omega arith; close = omega arith }

gaps : (exit : Bool) (k d fu gu lu hu fv gv lv hv : ℕ) → IsHalf fu gu lu hu → IsHalf fv gv lv hv
    → gap exit (k + 1) d lu lv + gap exit (k + 1) d hu hv ≤ gap exit k d fu fv + gap exit (k + 2) d gu gv
gaps exit k d fu gu lu hu fv gv lv hv h i = grind arith

module _ (m : Model) (steady : HasSteadyRates m) (k : ℕ) (l : k + 2 ≤ m.horizon) (f g : ℕ → ℕ)
    (few_f : (n : ℕ) → f n ≤ k + 1) (few_g : (n : ℕ) → g n ≤ (k + 2) + 1) where
  abbrev low : ℕ → ℕ
  low n = (f n + g n) / 2

  abbrev high : ℕ → ℕ
  high n = (f n + g n) - (f n + g n) / 2

  few_low : (n : ℕ) → low n ≤ (k + 1) + 1
  few_low n = omega (arith, few_f n, few_g n)

  few_high : (n : ℕ) → high n ≤ (k + 1) + 1
  few_high n = omega (arith, few_f n, few_g n)

  arcs_halfway : (a : ℕ) → a < length m.arcs
      → of_arc m (k + 1) (from_moments low) a + of_arc m (k + 1) (from_moments high) a
      ≤ of_arc m k (from_moments f) a + of_arc m (k + 2) (from_moments g) a
  arcs_halfway a i =
      let u = tail m a in
      let v = head m a in
      omega (
        arith,
        arc_worth m steady low (k + 1) a (omega (arith, l)) i few_low,
        arc_worth m steady high (k + 1) a (omega (arith, l)) i few_high,
        arc_worth m steady f k a (omega (arith, l)) i few_f,
        arc_worth m steady g (k + 2) a l i few_g,
        mul-le-mul_left (rate m a 0) (gaps (is_exit_at m v) k (arc_at m a).travel (f u) (g u) (low u) (high u) (f v) (g v) (low v) (high v)
            (halfway (f u) (g u)) (halfway (f v) (g v))),
      )

-- ---- nodes

module _ (m : Model) (nobody : m.entrants ≡ []) (h : ℕ → ℕ) (k : ℕ) where
  -- a cut that is worth fewer than start in a node has it from the first moment on
  pub at_once : (n : ℕ) → n < length m.nodes → cut_value m (from_moments h) k < start m n → h n ≡ 0
  at_once n i fewer = elim (cases_lt 0 (h n)) [
    | inr first ↦ omega (arith, first)
    | inl later ↦
        absurd (omega (
          arith,
          fewer,
          nodes_and_arcs m k (from_moments h),
          pick_le (of_node m k (from_moments h)) (length m.nodes) n i,
          node_worth m nobody h k n,
          ap (λ b. cond b 0 (start m n)) (lt-leb (h n) 0 later),
        ))
  ]

  free : (b : Bool) (s : ℕ) → (0 < s → b ≡ true) → cond b 0 s ≤ 0
  free b s e = grind arith

  -- a cut that has each node with people from the first moment on pays none
  pub nodes_free : ((n : ℕ) → n < length m.nodes → 0 < start m n → h n ≡ 0) → sum_by (of_node m k (from_moments h)) (below (length m.nodes)) ≤ 0
  nodes_free first =
      omega (
        arith,
        sum_by-nothing (below (length m.nodes)),
        termwise (of_node m k (from_moments h)) (λ _. 0) (length m.nodes)
            (λ n i. omega (arith, node_worth m nobody h k n, free (leb (h n) 0) (start m n) (λ some. le-leb (h n) 0 (omega (arith, first n i some))))),
      )

-- ---- plans

module _ (m : Model) (k : ℕ) (l : k + 2 ≤ m.horizon) (steady : HasSteadyRates m) (nobody : m.entrants ≡ []) (valid : IsValid m)
    (x y : Cut) (few : (n : ℕ) → n < length m.nodes → 0 < start m n
    → (cut_value m (from_moments (moments_outside x k)) k < start m n) × (cut_value m (from_moments (moments_outside y (k + 2))) (k + 2) < start m n)) where
  abbrev f : ℕ → ℕ
  f = moments_outside x k

  abbrev g : ℕ → ℕ
  g = moments_outside y (k + 2)

  few_f : (n : ℕ) → f n ≤ k + 1
  few_f n = omega (arith, hits_and_misses (x n) (k + 1))

  few_g : (n : ℕ) → g n ≤ (k + 2) + 1
  few_g n = omega (arith, hits_and_misses (y n) ((k + 2) + 1))

  abbrev lo : ℕ → ℕ
  lo = low m steady k l f g few_f few_g

  abbrev hi : ℕ → ℕ
  hi = high m steady k l f g few_f few_g

  half : (a b : ℕ) → a ≡ 0 → b ≡ 0 → ((a + b) / 2 ≡ 0) × ((a + b) - (a + b) / 2 ≡ 0)
  half a b e h = (omega (arith, e, h), omega (arith, e, h))

  both_first : (n : ℕ) → n < length m.nodes → 0 < start m n → (lo n ≡ 0) × (hi n ≡ 0)
  both_first n i some = grind (arith, half, at_once)

  two_halves : cut_value m (from_moments lo) (k + 1) + cut_value m (from_moments hi) (k + 1)
      ≤ cut_value m (from_moments f) k + cut_value m (from_moments g) (k + 2)
  two_halves =
      omega (
        arith,
        nodes_and_arcs m (k + 1) (from_moments lo),
        nodes_and_arcs m (k + 1) (from_moments hi),
        nodes_free m nobody lo (k + 1) (λ n i some. (both_first n i some).0),
        nodes_free m nobody hi (k + 1) (λ n i some. (both_first n i some).1),
        sum_by-add (of_arc m (k + 1) (from_moments lo)) (of_arc m (k + 1) (from_moments hi)) (below (length m.arcs)),
        sum_by-add (of_arc m k (from_moments f)) (of_arc m (k + 2) (from_moments g)) (below (length m.arcs)),
        termwise (λ a. of_arc m (k + 1) (from_moments lo) a + of_arc m (k + 1) (from_moments hi) a)
            (λ a. of_arc m k (from_moments f) a + of_arc m (k + 2) (from_moments g) a) (length m.arcs)
            (arcs_halfway m steady k l f g few_f few_g),
        nodes_and_arcs m k (from_moments f),
        nodes_and_arcs m (k + 2) (from_moments g),
      )

pub pace_never_falls : (m : Model) (p s q : List Move) (k : ℕ) → IsValid m → HasSteadyRates m → m.entrants ≡ [] → k + 2 ≤ m.horizon
    → IsBestAt m p k → IsFeasible m s (k + 1) → IsBestAt m q (k + 2)
    → ((n : ℕ) → n < length m.nodes → 0 < start m n → out_by m q (k + 2) < start m n)
    → out_by m s (k + 1) + out_by m s (k + 1) ≤ out_by m p k + out_by m q (k + 2)
pace_never_falls m p s q k valid steady nobody l first feasible last many =
    let room = nobody_later_has_room m valid nobody in
    let l' : k ≤ m.horizon = omega (arith, l) in
    let x = cut_of m p k valid l' first in
    let y = cut_of m q (k + 2) valid l last in
    let worth_x = waiting_cut m x.0 k l' steady room in
    let worth_y = waiting_cut m y.0 (k + 2) l steady room in
    let more = no_fewer_later m p q k (k + 2) valid (omega arith) l first.feasible last in
    let few : (n : ℕ) → n < length m.nodes → 0 < start m n
    → (cut_value m (from_moments (moments_outside x.0 k)) k < start m n)
    × (cut_value m (from_moments (moments_outside y.0 (k + 2))) (k + 2) < start m n) =
    λ n i some. (omega (arith, worth_x, x.1, more, many n i some), omega (arith, worth_y, y.1, many n i some)) in
    let halves = two_halves m k l steady nobody valid x.0 y.0 few in
    omega (
      arith,
      out_le_value m (from_moments (lo m k l steady nobody valid x.0 y.0 few)) s (k + 1) valid feasible,
      out_le_value m (from_moments (hi m k l steady nobody valid x.0 y.0 few)) s (k + 1) valid feasible,
      halves,
      worth_x,
      worth_y,
      x.1,
      y.1,
    )
