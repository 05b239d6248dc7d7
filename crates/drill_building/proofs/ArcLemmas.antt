-- The arcs of a drill.
use Rattle.std.proofs.Common.{◌≡◌, ◌≢◌, ℕ, zero, suc, ◌+◌, ◌-◌, ◌*◌, ◌<◌, ◌≤◌, ◌==◌, Bool, true, false, cond, [], ◌∷◌, length, get_or, refl, ap, ap₂, arith, length-append}
use Rattle.std.specs.List.{All, flat_map}
use Rattle.std.proofs.lemmas.Bool.{ne_eqb}
use Rattle.std.proofs.lemmas.List.Elements.{All-append, All-cons, All-nil}
use Rattle.evac_law.specs.Building.{IsArc, arc_row, no_arc}
use Rattle.evac_law.specs.Limits.{rate_limit, travel_limit, window_limit}
use Rattle.evac_law.specs.Windows.{IsWindow}
use Rattle.evac_law.specs.declared.model.ArcRow.{ArcRow}
use Rattle.drill_building.specs.Drill.{drill_arcs, drill_nodes, ground_arcs, hall_place, room_place, stair_place, storey_arcs, storeys}
use Rattle.drill_building.proofs.NodeLemmas.{no-exit, node-count}
use Rattle.drill_building.proofs.Storeys.{IsPlaced, all-four, all-storeys, keys-differ, length-storeys, placed-append, placed-storeys}

-- ---- how many

pub arc-count : (n : ℕ) → length (drill_arcs n) ≡ 4 * n + 2
unfolding drill_arcs
arc-count n =
    let parts = length-append ground_arcs (flat_map storey_arcs (storeys n)) in
    let rest = length-storeys storey_arcs 1 n (λ f. refl) in
    omega (arith, parts, rest)

-- ---- each arc

-- a stairwell stands after its storey's hall, and that of the storey below before this one's rooms
pub stair-is : (f : ℕ) → 1 ≤ f → stair_place f ≡ 4 * f + 2
stair-is f low = ap (λ t. cond t 0 (4 * f + 2)) (ne_eqb f 0 (λ e. omega (arith, e, low)))

pub stair-below : (f : ℕ) → stair_place f ≤ 4 * f + 2
stair-below f = either (f == 0)
  where
    either : (t : Bool) → cond t 0 (4 * f + 2) ≤ 4 * f + 2
    either true = omega arith
    either false = omega arith

arc-is : (n from to travel rate : ℕ) → from < 4 * n + 3 → to < 4 * n + 3 → from ≢ to → (1 ≤ from → from ≤ 2 → ⊥) → 1 ≤ travel → travel ≤ 2 → rate ≤ 6
    → IsArc (drill_nodes n) (arc_row from to travel rate)
unfolding travel_limit rate_limit window_limit
arc-is n from to travel rate from-in to-in apart behind takes few slow =
    let count = node-count n in
    let inside : from < length (drill_nodes n) = omega (arith, count, from-in) in
    record {
      from_in = inside;
      to_in = omega (arith, count, to-in);
      apart = apart;
      from_no_exit = no-exit n from inside behind;
      travel_fits = (takes, omega (arith, few));
      rate_fits = omega (arith, slow);
      windows = record { few = omega arith; each = All-nil IsWindow; apart = λ i j d before within. absurd (omega arith) };
    }

storey-arcs-are : (n f : ℕ) → 1 ≤ f → f ≤ n → All (IsArc (drill_nodes n)) (storey_arcs f)
storey-arcs-are n f low high =
    let stair = stair-is f low in
    let below = stair-below (f - 1) in
    let P = IsArc (drill_nodes n) in
    all-four P _ _ _ _
    (arc-is n (room_place f 1) (hall_place f) 1 6 (omega (arith, low, high)) (omega (arith, high)) (λ e. omega (arith, low, e)) (λ a b. omega (arith, low, b)) (omega arith) (omega arith) (omega arith))
    (arc-is n (room_place f 2) (hall_place f) 1 6 (omega (arith, low, high)) (omega (arith, high)) (λ e. omega (arith, low, e)) (λ a b. omega (arith, low, b)) (omega arith) (omega arith) (omega arith))
    (arc-is n (hall_place f) (stair_place f) 1 4 (omega (arith, high)) (omega (arith, stair, high)) (λ e. omega (arith, stair, e)) (λ a b. omega (arith, low, b)) (omega arith) (omega arith) (omega arith))
    (arc-is n (stair_place f) (stair_place (f - 1)) 2 4 (omega (arith, stair, high)) (omega (arith, below, low, high)) (λ e. omega (arith, stair, below, low, e)) (λ a b. omega (arith, stair, low, b)) (omega arith) (omega arith) (omega arith))

ground-arcs-are : (n : ℕ) → All (IsArc (drill_nodes n)) ground_arcs
ground-arcs-are n =
    let P = IsArc (drill_nodes n) in
    let second = arc_row 0 2 2 2 in
    All-cons P (arc_row 0 1 1 3) (second ∷ []) (arc-is n 0 1 1 3 (omega arith) (omega arith) (λ e. omega (arith, e)) (λ a b. omega (arith, a)) (omega arith) (omega arith) (omega arith))
    (All-cons P second [] (arc-is n 0 2 2 2 (omega arith) (omega arith) (λ e. omega (arith, e)) (λ a b. omega (arith, a)) (omega arith) (omega arith) (omega arith)) (All-nil P))

pub arcs-are : (n : ℕ) → All (IsArc (drill_nodes n)) (drill_arcs n)
unfolding drill_arcs
arcs-are n =
    All-append (IsArc (drill_nodes n)) ground_arcs (flat_map storey_arcs (storeys n)) (ground-arcs-are n)
    (all-storeys (IsArc (drill_nodes n)) storey_arcs 1 n (λ f low high. storey-arcs-are n f low (omega (arith, high))))

-- ---- places

-- the place of an arc, by its ends
abbrev ends-place : ℕ → ℕ → ℕ
ends-place zero to = to - 1
ends-place (suc from) to = from

abbrev place-of : ArcRow → ℕ
place-of r = ends-place r.from r.to

ends-are : (from to k : ℕ) → from ≡ k + 1 → ends-place from to ≡ k
ends-are zero to k e = absurd (omega (arith, e))
ends-are (suc from) to k e = omega (arith, e)

storey-placed : (f : ℕ) → 1 ≤ f → IsPlaced place-of (4 * f - 2) (storey_arcs f)
storey-placed f low =
    let stair = stair-is f low in
    let first = ends-are (room_place f 1) (hall_place f) (4 * f - 2) (omega (arith, low)) in
    let second = ends-are (room_place f 2) (hall_place f) (4 * f - 2 + 1) (omega (arith, low)) in
    let third = ends-are (hall_place f) (stair_place f) (4 * f - 2 + 1 + 1) (omega (arith, low)) in
    let fourth = ends-are (stair_place f) (stair_place (f - 1)) (4 * f - 2 + 1 + 1 + 1) (omega (arith, stair, low)) in
    (first, (second, (third, (fourth, tt))))

arcs-placed : (n : ℕ) → IsPlaced place-of 0 (drill_arcs n)
unfolding drill_arcs
arcs-placed n =
    placed-append place-of 0 ground_arcs (flat_map storey_arcs (storeys n)) (refl, (refl, tt))
    (placed-storeys place-of storey_arcs 2 (omega arith) (λ f. refl) storey-placed 1 n (omega arith))

pub ends-differ : (n i j : ℕ) → i < j → j < length (drill_arcs n) → (get_or (drill_arcs n) i no_arc).from ≡ (get_or (drill_arcs n) j no_arc).from
    → (get_or (drill_arcs n) i no_arc).to ≢ (get_or (drill_arcs n) j no_arc).to
ends-differ n i j before within same = λ e.
    keys-differ place-of (drill_arcs n) no_arc (arcs-placed n) i j before within (ap₂ ends-place same e)
