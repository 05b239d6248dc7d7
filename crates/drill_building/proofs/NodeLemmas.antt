-- The nodes of a drill.
use Rattle.std.proofs.Common.{◌≡◌, ◌≢◌, ℕ, ◌+◌, ◌-◌, ◌*◌, ◌<◌, ◌≤◌, ◌==◌, Bool, true, false, cond, IsFalse, [], ◌∷◌, length, get_or, refl, sym, ap, ◌∙◌, arith, length-append}
use Rattle.std.specs.List.{All, flat_map, sum_by}
use Rattle.std.proofs.lemmas.List.Elements.{All-append, All-cons, All-nil}
use Rattle.std.proofs.lemmas.List.Sums.{sum_by-append}
use Rattle.evac_law.specs.Building.{IsNode, no_node, node_row}
use Rattle.evac_law.specs.Limits.{capacity_limit, floor_number_limit, number_limit, people_limit}
use Rattle.evac_law.specs.Names.{IsName, is_exit}
use Rattle.evac_law.specs.declared.model.NodeRow.{NodeRow}
use Rattle.evac_law.specs.declared.name.Kind.{Kind}
use Rattle.evac_law.specs.declared.name.Kind.TheVariants.{Exit, Hall, Lobby, Stair, Work}
use Rattle.evac_law.specs.declared.name.NodeName.{NodeName}
use Rattle.drill_building.specs.Drill.{drill_nodes, ground_nodes, node_name, room_start, storey_nodes, storeys}
use Rattle.drill_building.proofs.Storeys.{IsPlaced, all-four, all-storeys, keys-differ, length-storeys, placed-append, placed-at, placed-storeys, sum-storeys}

-- ---- how many

pub node-count : (n : ℕ) → length (drill_nodes n) ≡ 4 * n + 3
unfolding drill_nodes
node-count n =
    let parts = length-append ground_nodes (flat_map storey_nodes (storeys n)) in
    let rest = length-storeys storey_nodes 1 n (λ f. refl) in
    omega (arith, parts, rest)

-- ---- each node

name-is : (kind : Kind) (number f : ℕ) → 1 ≤ number → number ≤ 2 → f ≤ 40 → IsName (node_name kind number f)
unfolding number_limit floor_number_limit
name-is kind number f low high few = record { number = (low, omega (arith, high)); floor = omega (arith, few) }

-- a node that is no exit
inside-is : (kind : Kind) (number f capacity start : ℕ) → is_exit kind ≡ false → 1 ≤ number → number ≤ 2 → f ≤ 40 → start ≤ capacity → capacity ≤ 40
    → IsNode (node_row (node_name kind number f) capacity start)
unfolding capacity_limit
inside-is kind number f capacity start inside low high few fits small = record {
  name = name-is kind number f low high few;
  start_fits = fits;
  capacity_fits = omega (arith, small);
  exit_is_empty = λ e. (let no : true ≡ false = sym e ∙ inside in cc);
  only_exits_shut = λ (e : false ≡ true). cc;
}

exit-is : (number : ℕ) → 1 ≤ number → number ≤ 2 → IsNode (node_row (node_name Exit number 0) 0 0)
unfolding capacity_limit
exit-is number low high = record {
  name = name-is Exit number 0 low high (omega arith);
  start_fits = omega arith;
  capacity_fits = omega arith;
  exit_is_empty = λ e. refl;
  only_exits_shut = λ (e : false ≡ true). cc;
}

start-few : (f w : ℕ) → room_start f w ≤ 20
start-few f w = omega arith

storey-nodes-are : (f : ℕ) → f ≤ 40 → All IsNode (storey_nodes f)
storey-nodes-are f few =
    let fits : (w : ℕ) → room_start f w ≤ 40 = λ w. (let h = start-few f w in omega (arith, h)) in
    all-four IsNode _ _ _ _
    (inside-is Work 1 f 40 (room_start f 1) refl (omega arith) (omega arith) few (fits 1) (omega arith))
    (inside-is Work 2 f 40 (room_start f 2) refl (omega arith) (omega arith) few (fits 2) (omega arith))
    (inside-is Hall 1 f 30 0 refl (omega arith) (omega arith) few (omega arith) (omega arith))
    (inside-is Stair 1 f 12 0 refl (omega arith) (omega arith) few (omega arith) (omega arith))

ground-nodes-are : All IsNode ground_nodes
ground-nodes-are =
    let first = node_row (node_name Exit 1 0) 0 0 in
    let second = node_row (node_name Exit 2 0) 0 0 in
    All-cons IsNode (node_row (node_name Lobby 1 0) 40 0) (first ∷ second ∷ []) (inside-is Lobby 1 0 40 0 refl (omega arith) (omega arith) (omega arith) (omega arith) (omega arith))
    (All-cons IsNode first (second ∷ []) (exit-is 1 (omega arith) (omega arith)) (All-cons IsNode second [] (exit-is 2 (omega arith) (omega arith)) (All-nil IsNode)))

pub nodes-are : (n : ℕ) → n ≤ 40 → All IsNode (drill_nodes n)
unfolding drill_nodes
nodes-are n few =
    All-append IsNode ground_nodes (flat_map storey_nodes (storeys n)) ground-nodes-are
    (all-storeys IsNode storey_nodes 1 n (λ f low high. storey-nodes-are f (omega (arith, high, few))))

-- ---- people

storey-people : (f : ℕ) → sum_by (λ (r : NodeRow). r.start) (storey_nodes f) ≤ 40
storey-people f = let one = start-few f 1 in let two = start-few f 2 in omega (arith, one, two)

pub people-few : (n : ℕ) → n ≤ 40 → sum_by (λ (r : NodeRow). r.start) (drill_nodes n) ≤ people_limit
unfolding drill_nodes people_limit
people-few n few =
    let parts = sum_by-append (λ (r : NodeRow). r.start) ground_nodes (flat_map storey_nodes (storeys n)) in
    let rest = sum-storeys (λ (r : NodeRow). r.start) storey_nodes 40 storey-people 1 n in
    omega (arith, parts, rest, few)

-- ---- places

-- the place of a node, by its name
abbrev name-place : Kind → ℕ → ℕ → ℕ
name-place Work w f = 4 * f + w - 2
name-place Hall w f = 4 * f + 1
name-place Stair w f = 4 * f + 2
name-place Lobby w f = 0
name-place Exit w f = cond (w == 1) 1 2

abbrev pub place-of : NodeRow → ℕ
place-of r = name-place r.name.kind r.name.number r.name.floor

storey-placed : (f : ℕ) → 1 ≤ f → IsPlaced place-of (4 * f - 1) (storey_nodes f)
storey-placed f low = (omega (arith, low), (omega (arith, low), (omega (arith, low), (omega (arith, low), tt))))

pub nodes-placed : (n : ℕ) → IsPlaced place-of 0 (drill_nodes n)
unfolding drill_nodes
nodes-placed n =
    placed-append place-of 0 ground_nodes (flat_map storey_nodes (storeys n)) (refl, (refl, (refl, tt)))
    (placed-storeys place-of storey_nodes 1 (omega arith) (λ f. refl) storey-placed 1 n (omega arith))

pub names-differ : (n i j : ℕ) → i < j → j < length (drill_nodes n) → (get_or (drill_nodes n) i no_node).name ≢ (get_or (drill_nodes n) j no_node).name
names-differ n i j before within = λ e.
    keys-differ place-of (drill_nodes n) no_node (nodes-placed n) i j before within (ap (λ (x : NodeName). name-place x.kind x.number x.floor) e)

-- the exits stand at the places 1 and 2
exit-places : (kind : Kind) (w f : ℕ) → is_exit kind ≡ true → (1 ≤ name-place kind w f) × (name-place kind w f ≤ 2)
exit-places Exit w f e = either (w == 1)
  where
    either : (t : Bool) → (1 ≤ cond t 1 2) × (cond t 1 2 ≤ 2)
    either true = (omega arith, omega arith)
    either false = (omega arith, omega arith)
exit-places _ w f e = cc

not-true : (t : Bool) → (t ≡ true → ⊥) → IsFalse t
not-true true h = absurd (h refl)
not-true false h = refl

pub no-exit : (n i : ℕ) → i < length (drill_nodes n) → (1 ≤ i → i ≤ 2 → ⊥) → IsFalse (is_exit (get_or (drill_nodes n) i no_node).name.kind)
no-exit n i within other =
    let r = get_or (drill_nodes n) i no_node in
    let at = placed-at place-of 0 (drill_nodes n) (nodes-placed n) i no_node within in
    not-true (is_exit r.name.kind) (λ e.
    let p = exit-places r.name.kind r.name.number r.name.floor e in
    let low = p.0 in let high = p.1 in other (omega (arith, low, at)) (omega (arith, high, at)))
