-- What is left of a building, part by part: it is valid, and who comes into it is who is left.
use Rattle.std.proofs.Common.{◌≡◌, ℕ, ◌+◌, ◌<◌, ◌≤◌, Bool, true, false, cond, ◌&&◌, eqb, List, length, get_or, map, refl, ap, sym, ◌∙◌, inl, inr, ◌⊎◌, arith}
use Rattle.std.specs.List.{All, sum_by}
use Rattle.std.proofs.Math.ListN.{get_or-map}
use Rattle.std.proofs.lemmas.List.{length-map}
use Rattle.std.proofs.lemmas.List.Elements.{All-map}
use Rattle.std.proofs.lemmas.Bool.{cases_Bool, cases_lt, ne_eqb}
use Rattle.std.proofs.lemmas.Bool.Decides.{nat_tests}
use Rattle.evac_law.specs.declared.entrant.Entrant.{Entrant}
use Rattle.evac_law.specs.declared.model.Model.{Model}
use Rattle.evac_law.specs.declared.model.NodeRow.{NodeRow}
use Rattle.evac_law.specs.declared.plan.Move.{Move}
use Rattle.evac_law.specs.Building.{IsArc, IsEntrant, IsNode, IsValid, arrival, entry, head, is_exit_at, no_node, node_at, people, start}
use Rattle.evac_law.specs.Entrants.{entering, table_entrants}
use Rattle.evac_law.specs.Names.{is_exit}
use Rattle.evac_law.specs.Plans.{TakesAllOut, coming, out_by}
use Rattle.evac_law.specs.Sums.{moments_to, places}
use Rattle.evac_law.proofs.EntrantTable.{all_of_table, entrants_are_table}
use Rattle.evac_law.proofs.Entries.{none_late}
use Rattle.evac_law.proofs.SumLemmas.{sum_by-nothing, sum_by-same, sum_by-same_all}
use Rattle.replan.specs.Committed.{moves_before}
use Rattle.replan.specs.Rest.{without_start, rest, rest_entry}
use Rattle.replan.proofs.Counted.{arrives, nobody_lost}
use Rattle.replan.proofs.Parted.{before_is}
use Rattle.replan.proofs.Shifted.{IsLeft, rest_later, rest_none}

-- ---- nodes

node_is : (m : Model) (p : List Move) (s n : ℕ) → node_at (rest m p s) n ≡ without_start (node_at m n)
node_is m p s n = get_or-map without_start m.nodes n no_node

-- ---- who comes

at_zero : (b : Bool) (x y : ℕ) → b ≡ true → x ≡ 0 → cond b x y ≡ 0
at_zero b x y e z = grind arith

at_later : (b : Bool) (x y : ℕ) → b ≡ false → cond b x y ≡ y
at_later b x y e = grind arith

late_move : (b : Bool) (x t w : ℕ) → (0 < w → x < t) → cond (b && eqb x t) w 0 ≡ 0
late_move b x t w h = grind (arith, nat_tests)

-- nobody comes along an arc after the horizon
coming_late : {m : Model} {p : List Move} (s n t : ℕ) → IsValid m → s ≤ m.horizon → TakesAllOut m p → m.horizon < t
    → coming m (moves_before s p) n t ≡ 0
unfolding coming
coming_late {m} {p} s n t valid l all late =
    let made = moves_before s p in
    sum_by-same_all _ (λ _. 0) made
    (λ i d k. let v = get_or made i d in
    late_move (eqb (head m v.arc) n) (arrival m v.arc v.moment) t v.people
    (λ some. omega (arith, arrives m p s valid l all i d k some (omega (arith, before_is s p i d k, l)), late)))
    ∙ sum_by-nothing made

module _ (m : Model) (p : List Move) (s : ℕ) (valid : IsValid m) (first : 1 ≤ s) (in_horizon : s ≤ m.horizon) (all : TakesAllOut m p) where
  abbrev left : Model
  left = rest m p s

  -- the entrants of what is left
  abbrev comers : List Entrant
  comers = table_entrants (length m.nodes) m.horizon (rest_entry m p s)

  -- nobody comes by an entrant after the horizon
  comers_none : (n t : ℕ) → m.horizon < t → entering comers n t ≡ 0
  unfolding entering
  comers_none n t late =
      let table = entrants_are_table (length m.nodes) m.horizon (rest_entry m p s) in
      sum_by-same_all _ (λ _. 0) comers
      (λ i d k. let e = get_or comers i d in
      late_move (eqb e.node n) e.moment t e.people (λ some. omega (arith, late, (table.in_range i d k).2)))
      ∙ sum_by-nothing comers

  none_after : (n t : ℕ) → n < length m.nodes → m.horizon < t → rest_entry m p s n t ≡ 0
  none_after n t i l = elim (cases_Bool (is_exit_at m n)) [
    | inl exit ↦ rest_none m p s n t (inl exit)
    | inr no_exit ↦ omega (
      arith,
      rest_later m p s n t no_exit (omega (arith, in_horizon, l)),
      none_late m n t valid l,
      coming_late s n t valid in_horizon all l,
    )
  ]

  entry_at : (n t : ℕ) → n < length m.nodes → (t < 1) ⊎ (1 ≤ t) → (m.horizon < t) ⊎ (t ≤ m.horizon) → entry left n t ≡ rest_entry m p s n t
  entry_at n t i (inl none) l =
      let zero_first : t ≡ 0 = omega arith in
      let nobody : start left n ≡ 0 = ap (λ (r : NodeRow). r.start) (node_is m p s n) in
      at_zero (eqb t 0) (start left n) (entering comers n t) (rw zero_first refl) nobody ∙ sym (rest_none m p s n t (inr (omega (arith, zero_first, first))))
  entry_at n t i (inr later) (inl late) =
      at_later (eqb t 0) (start left n) (entering comers n t) (ne_eqb t 0 (λ e. omega (arith, e, later)))
      ∙ comers_none n t late
      ∙ sym (none_after n t i late)
  entry_at n t i (inr later) (inr soon) =
      at_later (eqb t 0) (start left n) (entering comers n t) (ne_eqb t 0 (λ e. omega (arith, e, later)))
      ∙ (entrants_are_table (length m.nodes) m.horizon (rest_entry m p s)).same n t i later soon

  pub is_left : IsLeft m p s left
  is_left = record {
    arcs = refl;
    size = length-map m.nodes without_start;
    horizon = refl;
    exits = λ n. ap (λ (r : NodeRow). is_exit r.name.kind) (node_is m p s n);
    rooms = λ n. ap (λ (r : NodeRow). r.capacity) (node_is m p s n);
    shut = λ n. ap (λ (r : NodeRow). r.shut) (node_is m p s n);
    entries = λ n t i. entry_at n t i (cases_lt t 1) (cases_lt m.horizon t);
  }

  -- ---- the people of what is left

  people_are : people left ≡ sum_by (λ n. sum_by (rest_entry m p s n) (moments_to m.horizon)) (places m.nodes)
  unfolding people
  people_are =
      let starts : sum_by (λ (n : NodeRow). n.start) (map without_start m.nodes) ≡ 0 =
      sum_by-same_all (λ (n : NodeRow). n.start) (λ _. 0) (map without_start m.nodes) (All-map (λ (n : NodeRow). n.start ≡ 0) without_start m.nodes (λ i d l. refl))
      ∙ sum_by-nothing (map without_start m.nodes) in
      omega (
        arith,
        starts,
        all_of_table (length m.nodes) m.horizon (rest_entry m p s),
        sum_by-same (λ n. rest_entry m p s n 0) (λ _. 0) (places m.nodes) (λ n. rest_none m p s n 0 (inr first)),
        sum_by-nothing (places m.nodes),
      )

  pub nobody_lost_in : out_by m (moves_before s p) m.horizon + people left ≡ people m
  nobody_lost_in = omega (arith, people_are, nobody_lost m p s valid in_horizon all)

  -- ---- what is left is valid

  name_in : (n : ℕ) → is_exit (node_at left n).name.kind ≡ is_exit (node_at m n).name.kind
  name_in n = ap (λ (r : NodeRow). is_exit r.name.kind) (node_is m p s n)

  -- somebody comes into no exit
  comes_where : (e : Entrant) → 1 ≤ e.people → e.people ≡ rest_entry m p s e.node e.moment → is_exit_at m e.node ≡ false
  comes_where e some is = elim (cases_Bool (is_exit_at m e.node)) [
    | inl exit ↦ absurd (omega (arith, some, is, rest_none m p s e.node e.moment (inl exit)))
    | inr no_exit ↦ no_exit
  ]

  as_many : length left.nodes ≡ length m.nodes
  as_many = length-map m.nodes without_start

  nodes_valid : All IsNode left.nodes
  nodes_valid =
      All-map IsNode without_start m.nodes (λ i d l. let n = valid.nodes i d l in record {
        name = n.name;
        start_fits = omega arith;
        capacity_fits = n.capacity_fits;
        exit_is_empty = n.exit_is_empty;
        only_exits_shut = n.only_exits_shut;
      })

  arcs_valid : All (IsArc left.nodes) m.arcs
  arcs_valid i d l = let a = valid.arcs i d l in record {
    from_in = omega (arith, a.from_in, as_many);
    to_in = omega (arith, a.to_in, as_many);
    apart = a.apart;
    from_no_exit = name_in (get_or m.arcs i d).from ∙ a.from_no_exit;
    travel_fits = a.travel_fits;
    rate_fits = a.rate_fits;
    windows = a.windows;
  }

  entrants_valid : All (IsEntrant left.nodes m.horizon) comers
  entrants_valid i d l =
      let table = entrants_are_table (length m.nodes) m.horizon (rest_entry m p s) in
      let range = table.in_range i d l in
      let of = table.of_table i d l in
      let e = get_or comers i d in record {
        node_in = omega (arith, range.0, as_many);
        no_exit = name_in e.node ∙ comes_where e of.0 of.1;
        later = range.1;
        in_horizon = range.2;
        somebody = of.0;
      }

  pub left_valid : IsValid left
  left_valid = record {
    seconds = valid.seconds;
    horizon = valid.horizon;
    nodes_fit = omega (arith, valid.nodes_fit, as_many);
    arcs_fit = valid.arcs_fit;
    cells_fit = rw as_many valid.cells_fit;
    people_fit = omega (arith, valid.people_fit, nobody_lost_in);
    nodes = nodes_valid;
    names_differ = λ i j l h e. valid.names_differ i j l (omega (arith, h, as_many))
        (sym (ap (λ (r : NodeRow). r.name) (node_is m p s i)) ∙ e ∙ ap (λ (r : NodeRow). r.name) (node_is m p s j));
    arcs = arcs_valid;
    ends_differ = valid.ends_differ;
    entrants = entrants_valid;
    entrants_sorted = (entrants_are_table (length m.nodes) m.horizon (rest_entry m p s)).sorted;
  }

  -- nobody comes into what is left before s
  pub nobody_before : (n t : ℕ) → n < length left.nodes → t < s → entry left n t ≡ 0
  nobody_before n t i l =
      is_left.entries n t (omega (arith, i, as_many))
      ∙ rest_none m p s n t (inr l)
