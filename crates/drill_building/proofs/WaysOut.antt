-- The ways out of a drill's building: three people at once can walk from each room over its hall and down the stairs to the lobby's first exit.
use Rattle.std.proofs.Common.{◌≡◌, ℕ, zero, suc, ◌+◌, ◌-◌, ◌*◌, ◌/◌, ◌%◌, ◌<◌, ◌≤◌, false, cond, ◌||◌, List, [], ◌∷◌, ◌++◌, length, get_or, refl, ap, sym, ◌∙◌, subst, arith, inl, inr}
use Rattle.std.specs.List.{All, flat_map, range_with_len, sum_by}
use Rattle.std.proofs.lemmas.Bool.{cases_lt}
use Rattle.std.proofs.lemmas.List.{get_or_append_left, get_or-append_right}
use Rattle.std.proofs.lemmas.List.Elements.{All-append, All-cons, All-nil}
use Rattle.std.proofs.lemmas.List.Sums.{sum_by-append, sum_by-cons}
use Rattle.evac_law.specs.declared.model.ArcRow.{ArcRow}
use Rattle.evac_law.specs.declared.model.NodeRow.{NodeRow}
use Rattle.evac_law.specs.declared.name.Kind.TheVariants.{Exit, Lobby}
use Rattle.evac_law.specs.Building.{arc_at, arc_row, no_arc, no_node, node_row, people, rate, start}
use Rattle.evac_law.specs.Certificates.{IsClearable}
use Rattle.evac_law.specs.Windows.{is_closed_at}
use Rattle.building_laws.specs.Ways.{HasWays, Way, way_time}
use Rattle.building_laws.proofs.Plain.{no_windows_are_steady}
use Rattle.building_laws.proofs.Ways.{ways_keep_pace}
use Rattle.drill_building.specs.Drill.{drill_arcs, drill_model, drill_nodes, ground_arcs, ground_nodes, hall_place, node_name, room_place, stair_place, storey_arcs, storey_nodes, storeys}
use Rattle.drill_building.proofs.ArcLemmas.{arc-count, stair-below, stair-is}
use Rattle.drill_building.proofs.NodeLemmas.{node-count}
use Rattle.drill_building.proofs.Storeys.{all-four, all-storeys, sum-storeys}
use Rattle.drill_building.proofs.Validity.{drill-valid}

-- ---- rows by place

-- row j of storey f
at-storey : {X : Type 0} (rows : ℕ → List X) (four : (f : ℕ) → length (rows f) ≡ 4) (a n f j : ℕ) (d : X) → a ≤ f → f < a + n → j < 4
    → get_or (flat_map rows (range_with_len a n)) (4 * (f - a) + j) d ≡ get_or (rows f) j d
at-storey rows four a zero f j d low high l = absurd (omega (arith, low, high))
at-storey rows four a (suc n) f j d low high l = elim (cases_lt a f) [
  | inl less ↦
      let rest = flat_map rows (range_with_len (a + 1) n) in
      let place : 4 * (f - a) + j - 4 ≡ 4 * (f - (a + 1)) + j = omega (arith, less) in
      get_or-append_right (rows a) rest 4 (4 * (f - a) + j) d (four a) (omega (arith, less))
      ∙ ap (λ i. get_or rest i d) place
      ∙ at-storey rows four (a + 1) n f j d (omega (arith, less)) (omega (arith, high)) l
  | inr last ↦
      let same : a ≡ f = omega (arith, low, last) in
      let rest = flat_map rows (range_with_len (a + 1) n) in
      let place : 4 * (f - a) + j ≡ j = omega (arith, last) in
      ap (λ i. get_or (rows a ++ rest) i d) place
      ∙ get_or_append_left (rows a) rest d j (omega (arith, l, four a))
      ∙ ap (λ g. get_or (rows g) j d) same
]

arc-of : (n f j : ℕ) → 1 ≤ f → f ≤ n → j < 4 → get_or (drill_arcs n) (4 * f - 2 + j) no_arc ≡ get_or (storey_arcs f) j no_arc
unfolding drill_arcs
arc-of n f j low high l =
    let rest = flat_map storey_arcs (storeys n) in
    let place : 4 * f - 2 + j - 2 ≡ 4 * (f - 1) + j = omega (arith, low) in
    get_or-append_right ground_arcs rest 2 (4 * f - 2 + j) no_arc refl (omega (arith, low))
    ∙ ap (λ i. get_or rest i no_arc) place
    ∙ at-storey storey_arcs (λ g. refl) 1 n f j no_arc low (omega (arith, high)) l

lobby-arc : (n : ℕ) → get_or (drill_arcs n) 0 no_arc ≡ arc_row 0 1 1 3
unfolding drill_arcs
lobby-arc n = refl

-- ---- nothing is shut, and nothing has a window

open-nodes : (n : ℕ) → All (λ (r : NodeRow). r.shut ≡ false) (drill_nodes n)
unfolding drill_nodes
open-nodes n =
    let P = λ (r : NodeRow). r.shut ≡ false in
    let first = node_row (node_name Exit 1 0) 0 0 in
    let second = node_row (node_name Exit 2 0) 0 0 in
    All-append P ground_nodes (flat_map storey_nodes (storeys n))
    (All-cons P (node_row (node_name Lobby 1 0) 40 0) (first ∷ second ∷ []) refl (All-cons P first (second ∷ []) refl (All-cons P second [] refl (All-nil P))))
    (all-storeys P storey_nodes 1 n (λ f low high. all-four P _ _ _ _ refl refl refl refl))

no-windows : (n : ℕ) → All (λ (r : ArcRow). r.windows.items ≡ []) (drill_arcs n)
unfolding drill_arcs
no-windows n =
    let P = λ (r : ArcRow). r.windows.items ≡ [] in
    let second = arc_row 0 2 2 2 in
    All-append P ground_arcs (flat_map storey_arcs (storeys n))
    (All-cons P (arc_row 0 1 1 3) (second ∷ []) refl (All-cons P second [] refl (All-nil P)))
    (all-storeys P storey_arcs 1 n (λ f low high. all-four P _ _ _ _ refl refl refl refl))

rate-is : (n a from to travel r t : ℕ) → get_or (drill_arcs n) a no_arc ≡ arc_row from to travel r → to < 4 * n + 3 → rate (drill_model n) a t ≡ r
rate-is n a from to travel r t e l =
    let open-head : (get_or (drill_nodes n) to no_node).shut ≡ false = open-nodes n to no_node (omega (arith, l, node-count n)) in
    ap (λ (row : ArcRow). cond (row.shut || (get_or (drill_nodes n) row.to no_node).shut || is_closed_at row.windows.items t) 0 row.rate) e
    ∙ ap (λ b. cond (false || b || false) 0 r) open-head

-- ---- ways

module _ (n : ℕ) where
  -- a way for three people at once that takes no longer than d
  abbrev WayOut : ℕ → ℕ → Type 0
  WayOut i d = (arcs : List ℕ) × Way (drill_model n) 3 i arcs × (way_time (drill_model n) arcs ≤ d)

  -- by an arc to where there is one
  by-arc : (a from to travel r d : ℕ) → a < 4 * n + 2 → get_or (drill_arcs n) a no_arc ≡ arc_row from to travel r → to < 4 * n + 3 → 3 ≤ r
      → WayOut to d → WayOut from (travel + d)
  by-arc a from to travel r d i row j wide way =
      let there = subst (λ p. Way (drill_model n) 3 p way.0) (sym (ap (λ s. s.to) row)) way.1 in
      let time = sum_by-cons (λ b. (arc_at (drill_model n) b).travel) a way.0 in (
        a ∷ way.0,
        (omega (arith, i, arc-count n), omega (arith, wide, rate-is n a from to travel r 0 row j), ap (λ s. s.from) row, there),
        omega (arith, time, ap (λ s. s.travel) row, way.2),
      )

  exit : WayOut 1 0
  unfolding drill_nodes
  exit = ([], refl, omega arith)

  from-lobby : WayOut 0 1
  from-lobby = by-arc 0 0 1 1 3 0 (omega arith) (lobby-arc n) (omega arith) (omega arith) exit

  -- where an arc of a storey leads over which a way goes on
  storey-arc : (f j from to travel r d : ℕ) → 1 ≤ f → f ≤ n → j < 4 → get_or (storey_arcs f) j no_arc ≡ arc_row from to travel r → to ≤ 4 * f + 2 → 3 ≤ r
      → WayOut to d → WayOut from (travel + d)
  storey-arc f j from to travel r d low high l row near wide way =
      by-arc (4 * f - 2 + j) from to travel r d (omega (arith, l, high, low)) (arc-of n f j low high l ∙ row) (omega (arith, near, high)) wide way

  from-stair : (f : ℕ) → f ≤ n → WayOut (stair_place f) (2 * f + 1)
  from-stair zero high = from-lobby
  from-stair (suc f) high =
      let below = from-stair f (omega (arith, high)) in
      let near : stair_place f ≤ 4 * suc f + 2 = omega (arith, stair-below f) in
      let before : suc f - 1 ≡ f = omega arith in
      let row = ap (λ g. arc_row (stair_place (suc f)) (stair_place g) 2 4) before in
      let way = storey-arc (suc f) 3 (stair_place (suc f)) (stair_place f) 2 4 (2 * f + 1) (omega arith) high (omega arith) row near (omega arith) below in
      (way.0, way.1, omega (arith, way.2))

  from-hall : (f : ℕ) → 1 ≤ f → f ≤ n → WayOut (hall_place f) (1 + (2 * f + 1))
  from-hall f low high =
      storey-arc f 2 (hall_place f) (stair_place f) 1 4 (2 * f + 1) low high (omega arith) refl (omega (arith, stair-is f low)) (omega arith) (from-stair f high)

  from-room : (f w : ℕ) → 1 ≤ f → f ≤ n → w < 2 → WayOut (4 * f - 1 + w) (1 + (1 + (2 * f + 1)))
  from-room f zero low high l =
      let place : room_place f 1 ≡ 4 * f - 1 + 0 = omega (arith, low) in
      subst (λ i. WayOut i (1 + (1 + (2 * f + 1)))) place
      (storey-arc f 0 (room_place f 1) (hall_place f) 1 6 (1 + (2 * f + 1)) low high (omega arith) refl (omega arith) (omega arith) (from-hall f low high))
  from-room f (suc zero) low high l =
      let place : room_place f 2 ≡ 4 * f - 1 + 1 = omega (arith, low) in
      subst (λ i. WayOut i (1 + (1 + (2 * f + 1)))) place
      (storey-arc f 1 (room_place f 2) (hall_place f) 1 6 (1 + (2 * f + 1)) low high (omega arith) refl (omega arith) (omega arith) (from-hall f low high))
  from-room f (suc (suc w)) low high l = absurd (omega (arith, l))

  -- from each place of a storey
  from-storey : (f j : ℕ) → 1 ≤ f → f ≤ n → j < 4 → WayOut (4 * f - 1 + j) (2 * f + 3)
  from-storey f zero low high l = let way = from-room f 0 low high (omega arith) in (way.0, way.1, omega (arith, way.2))
  from-storey f (suc zero) low high l = let way = from-room f 1 low high (omega arith) in (way.0, way.1, omega (arith, way.2))
  from-storey f (suc (suc zero)) low high l =
      let way = from-hall f low high in
      let place : hall_place f ≡ 4 * f - 1 + 2 = omega (arith, low) in
      subst (λ i. WayOut i (2 * f + 3)) place (way.0, way.1, omega (arith, way.2))
  from-storey f (suc (suc (suc zero))) low high l =
      let way = from-stair f high in
      let place : stair_place f ≡ 4 * f - 1 + 3 = omega (arith, low, stair-is f low) in
      subst (λ i. WayOut i (2 * f + 3)) place (way.0, way.1, omega (arith, way.2))
  from-storey f (suc (suc (suc (suc j)))) low high l = absurd (omega (arith, l))

  -- ---- people

  no-starts : (start (drill_model n) 1 ≡ 0) × (start (drill_model n) 2 ≡ 0)
  unfolding drill_nodes
  no-starts = (refl, refl)

  starts : (i : ℕ) → i < length (drill_nodes n) → 0 < start (drill_model n) i → WayOut i (2 * n + 3)
  starts i l some = elim (cases_lt i 3) [
    | inr high ↦
        let way = from-storey ((i + 1) / 4) ((i + 1) % 4) (omega (arith, high)) (omega (arith, l, node-count n)) (omega arith) in
        let place : 4 * ((i + 1) / 4) - 1 + (i + 1) % 4 ≡ i = omega (arith, high) in
        let storey : (i + 1) / 4 ≤ n = omega (arith, l, node-count n) in
        subst (λ p. WayOut p (2 * n + 3)) place (way.0, way.1, omega (arith, way.2, storey))
    | inl low ↦ ground i low some
  ]
    where
      ground : (i : ℕ) → i < 3 → 0 < start (drill_model n) i → WayOut i (2 * n + 3)
      ground zero low some = (from-lobby.0, from-lobby.1, omega (arith, from-lobby.2))
      ground (suc zero) low some = absurd (omega (arith, some, no-starts.0))
      ground (suc (suc zero)) low some = absurd (omega (arith, some, no-starts.1))
      ground (suc (suc (suc i))) low some = absurd (omega (arith, low))

pair : (x : ℕ) → (10 + ((x + 3) % 11)) + (10 + ((x + 6) % 11)) ≤ 37
pair x = omega arith

storey-people : (f : ℕ) → sum_by (λ (r : NodeRow). r.start) (storey_nodes f) ≤ 37
storey-people f = omega (arith, pair (7 * f))

people-are : (n : ℕ) → people (drill_model n) ≤ n * 37
unfolding people drill_nodes
people-are n =
    let parts = sum_by-append (λ (r : NodeRow). r.start) ground_nodes (flat_map storey_nodes (storeys n)) in
    omega (arith, parts, sum-storeys (λ (r : NodeRow). r.start) storey_nodes 37 storey-people 1 n)

-- at three people a moment all are out in time
pub drill-clearable : (n : ℕ) → n ≤ 40 → IsClearable (drill_model n)
drill-clearable n few =
    let is : HasWays (drill_model n) 3 (2 * n + 3) = record { nobody_later = refl; steady = no_windows_are_steady (drill_model n) (no-windows n); ways = starts n } in
    (ways_keep_pace (drill_model n) 3 (2 * n + 3) (drill-valid n few) is).clears (omega (arith, people-are n, few))
