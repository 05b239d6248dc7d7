-- The same building with rooms that hold just those who start in them has the same curve, and its plans are plans of the building.
use Rattle.std.proofs.Common.{◌≡◌, ℕ, ◌+◌, ◌<◌, ◌≤◌, Bool, cond, ◌&&◌, ◌||◌, eqb, leb, List, [], map, get_or, length, refl, ap, sym, ◌∙◌, arith, inl, inr, IsFalse, pos, ◌-ℤ◌}
use Rattle.std.specs.List.{sum_by}
use Rattle.std.proofs.Math.ListN.{get_or-map}
use Rattle.std.proofs.lemmas.Int.{ints}
use Rattle.std.proofs.lemmas.Bool.{cases_lt}
use Rattle.std.proofs.lemmas.List.{get_or_past, length-map}
use Rattle.std.proofs.lemmas.List.Elements.{All-map, All-weaker}
use Rattle.evac_law.specs.declared.model.Model.{Model}
use Rattle.evac_law.specs.declared.model.NodeRow.{NodeRow}
use Rattle.evac_law.specs.declared.plan.Move.{Move}
use Rattle.evac_law.specs.Building.{IsArc, IsEntrant, IsNode, IsValid, arc_at, arrival, capacity, entry, head, is_exit_at, no_node, node_at, people, start}
use Rattle.evac_law.specs.Entrants.{entering}
use Rattle.evac_law.specs.Names.{is_exit}
use Rattle.evac_law.specs.Plans.{came, held, left}
use Rattle.evac_law.specs.Sums.{below, moments_to, places}
use Rattle.evac_law.specs.Windows.{is_closed_at}
use Rattle.evac_law.proofs.Optimal.{lawful_down}
use Rattle.evac_law.proofs.SumLemmas.{sum_by-same, sum_places}
use Rattle.evac_law.proofs.ValidLemmas.{node_is}
use Rattle.evac_law.proofs.WeakDuality.{out_le_value}
use Rattle.building_laws.specs.Duality.{IsBestAt}
use Rattle.building_laws.specs.Looser.{IsLooser}
use Rattle.building_laws.specs.Rooms.{DifferInRoom}
use Rattle.building_laws.specs.Waits.{BestWaitsAtHome}
use Rattle.building_laws.proofs.Duality.{best_at_every_moment, best_of, staying}
use Rattle.building_laws.proofs.Looser.{looser_keeps_plans}
use Rattle.building_laws.proofs.Plain.{nobody_later_has_room}
use Rattle.building_laws.proofs.Rooms.{rooms_keep_most}

-- a room that holds just those who start in it
abbrev home : NodeRow → NodeRow
home r = record r { capacity = r.start }

abbrev homes : Model → Model
homes m = record m { nodes = map home m.nodes }

home_none : home no_node ≡ no_node
home_none = refl

at_home : (m : Model) (n : ℕ) → node_at (homes m) n ≡ home (node_at m n)
at_home m n = ap (λ d. get_or (map home m.nodes) n d) (sym home_none) ∙ get_or-map home m.nodes n no_node

start_home : (m : Model) (n : ℕ) → start (homes m) n ≡ start m n
start_home m n = ap (λ r. r.start) (at_home m n)

capacity_home : (m : Model) (n : ℕ) → capacity (homes m) n ≡ start m n
capacity_home m n = ap (λ r. r.capacity) (at_home m n)

name_home : (m : Model) (n : ℕ) → (node_at (homes m) n).name ≡ (node_at m n).name
name_home m n = ap (λ r. r.name) (at_home m n)

shut_home : (m : Model) (n : ℕ) → (node_at (homes m) n).shut ≡ (node_at m n).shut
shut_home m n = ap (λ r. r.shut) (at_home m n)

people_home : (m : Model) → people (homes m) ≡ people m
unfolding people
people_home m =
    omega (
      arith,
      sum_places (λ n. n.start) m.nodes no_node,
      sum_places (λ n. n.start) (map home m.nodes) no_node,
      sum_by-same (start (homes m)) (start m) (places m.nodes) (start_home m),
      ap (λ i. sum_by (start (homes m)) (below i)) (length-map m.nodes home),
    )

node_home : (r : NodeRow) → IsNode r → IsNode (home r)
node_home r h = record {
  name = h.name;
  start_fits = omega arith;
  capacity_fits = omega (arith, h.start_fits, h.capacity_fits);
  exit_is_empty = λ e. omega (arith, h.exit_is_empty e, h.start_fits);
  only_exits_shut = h.only_exits_shut;
}

valid_home : (m : Model) → IsValid m → IsValid (homes m)
valid_home m v =
    let long = length-map m.nodes home in
    record {
      seconds = v.seconds;
      horizon = v.horizon;
      nodes_fit = omega (arith, long, v.nodes_fit);
      arcs_fit = v.arcs_fit;
      cells_fit = rw long v.cells_fit;
      people_fit = omega (arith, people_home m, v.people_fit);
      nodes = All-map IsNode home m.nodes (All-weaker IsNode (λ r. IsNode (home r)) node_home m.nodes v.nodes);
      names_differ = λ i j a b e. v.names_differ i j a (omega (arith, long, b)) (sym (name_home m i) ∙ e ∙ name_home m j);
      arcs = All-weaker (IsArc m.nodes) (IsArc (map home m.nodes))
          (λ a h. record {
            from_in = omega (arith, long, h.from_in);
            to_in = omega (arith, long, h.to_in);
            apart = h.apart;
            from_no_exit = ap (λ z. is_exit z.kind) (name_home m a.from) ∙ h.from_no_exit;
            travel_fits = h.travel_fits;
            rate_fits = h.rate_fits;
            windows = h.windows;
          }) m.arcs v.arcs;
      ends_differ = v.ends_differ;
      entrants = All-weaker (IsEntrant m.nodes m.horizon) (IsEntrant (map home m.nodes) m.horizon)
          (λ e h. record {
            node_in = omega (arith, long, h.node_in);
            no_exit = ap (λ z. is_exit z.kind) (name_home m e.node) ∙ h.no_exit;
            later = h.later;
            in_horizon = h.in_horizon;
            somebody = h.somebody;
          }) m.entrants v.entrants;
      entrants_sorted = v.entrants_sorted;
    }

start_fits : (m : Model) (n : ℕ) → IsValid m → start m n ≤ capacity m n
start_fits m n v = elim (cases_lt n (length m.nodes)) [
  | inl l ↦ (node_is m n v l).start_fits
  | inr past ↦ omega (arith, ap (λ (r : NodeRow). r.start) (get_or_past m.nodes n no_node past))
]

looser_home : (m : Model) → IsValid m → IsLooser (homes m) m
looser_home m v = record {
  horizon = refl;
  places = length-map m.nodes home;
  exits = λ n. ap (λ z. is_exit z.kind) (name_home m n);
  starts = start_home m;
  entrants = refl;
  rooms = λ n. omega (arith, capacity_home m n, start_fits m n v);
  arcs = refl;
  tails = λ a. refl;
  heads = λ a. refl;
  travels = λ a. refl;
  rates = λ a t l s. same_rate (arc_at m a).shut (node_at (homes m) (head m a)).shut (node_at m (head m a)).shut (is_closed_at (arc_at m a).windows.items t) (arc_at m a).rate (shut_home m (head m a));
}
  where
    same_rate : (a b c d : Bool) (r : ℕ) → b ≡ c → cond (a || b || d) 0 r ≤ cond (a || c || d) 0 r
    same_rate a b c d r e = grind arith

differ_home : (m : Model) → DifferInRoom m (homes m)
differ_home m = record {
  horizon = refl;
  places = sym (length-map m.nodes home);
  nodes = λ n. sym (ap (λ (r : NodeRow). record r { capacity = 0 }) (at_home m n));
  arcs = refl;
  entrants = refl;
}

held_home : (m : Model) (p : List Move) (n t : ℕ) → held (homes m) p n t ≡ held m p n t
unfolding held came left
held_home m p n t =
    ap (λ e. pos (e + sum_by (λ v. cond (eqb (head m v.arc) n && leb (arrival m v.arc v.moment) t) v.people 0) p) -ℤ pos (left m p n t))
    (sum_by-same (entry (homes m) n) (entry m n) (moments_to t) (λ i. ap (λ s. cond (eqb i 0) s (entering m.entrants n i)) (start_home m n)))

-- a best plan of the homes is one of the building
pub best_waits_at_home : BestWaitsAtHome
best_waits_at_home m z v steady nobody l =
    let v' = valid_home m v in
    let room = nobody_later_has_room m v nobody in
    let room' = nobody_later_has_room (homes m) v' nobody in
    let homely = best_at_every_moment (homes m) [] z v' l (staying (homes m) z room' l) in
    let keeps = looser_keeps_plans (homes m) m (looser_home m v) in
    let curves = rooms_keep_most m (homes m) v v' (differ_home m) steady room room' in (
      homely.0,
      λ k s.
          let in_time : k ≤ m.horizon = omega (arith, l, s) in
          let cut = homely.2 k s in
          let feasible = lawful_down (homes m) homely.0 k z s homely.1 in
          let best' : IsBestAt (homes m) homely.0 k =
          record { feasible = feasible; most = λ r by. omega (arith, cut.2, out_le_value (homes m) cut.0 r k v' by) } in
          let mine = best_of m homely.0 k v in_time (keeps.plans homely.0 k in_time feasible) in
          record {
            feasible = keeps.plans homely.0 k in_time feasible;
            most = λ r by. omega (arith, mine.1.most r by, curves.curve mine.0 homely.0 k in_time mine.1 best', keeps.out homely.0 k);
          },
      λ n t i e s.
          let i' : n < length (homes m).nodes = omega (arith, i, length-map m.nodes home) in
          let e' : IsFalse (is_exit_at (homes m) n) = ap (λ z. is_exit z.kind) (name_home m n) ∙ e in
          omega (arith, ints, (homely.1.holds n t i' e' s).1, held_home m homely.0 n t, ap pos (capacity_home m n)),
    )
