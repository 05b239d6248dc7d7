-- Arrivals of a net are at most the value of any cut, and equal to it where the net is closed.
use Rattle.std.proofs.Common.{◌≡◌, ℕ, zero, suc, ◌+◌, ◌<◌, ◌≤◌, Bool, true, false, cond, not, ◌&&◌, ◌||◌, eqb, ltb, leb, List, [], ◌∷◌, length, get_or, refl, ap, sym, ◌∙◌, arith, inl, inr, ◌⊎◌, subst, pos, ◌≤ℤ◌}
use Rattle.std.specs.List.{sum_by, All}
use Rattle.std.proofs.lemmas.Bool.{cases_Bool, cases_lt, cond-false, false_from_ne_true, ne_eqb, le-leb, leb-true, and_parts}
use Rattle.std.proofs.lemmas.Bool.Decides.{nat_tests}
use Rattle.std.proofs.lemmas.Int.{ints}
use Rattle.evac_law.specs.Entrants.{entering}
use Rattle.evac_law.specs.Laws.{EntrantsAreTable}
use Rattle.evac_law.specs.Windows.{is_closed_at}
use Rattle.evac_law.specs.declared.entrant.Entrant.{Entrant}
use Rattle.evac_law.specs.declared.model.Model.{Model}
use Rattle.evac_law.specs.declared.plan.Move.{Move}
use Rattle.evac_law.specs.declared.model.NodeRow.{NodeRow}
use Rattle.evac_law.specs.Sums.{below}
use Rattle.evac_law.specs.Building.{IsValid, IsNode, IsArc, IsEntrant, is_exit_at, node_at, arc_at, no_node, tail, head, arrival, rate, entered_by, entry, people, capacity}
use Rattle.evac_law.specs.Certificates.{IsTight, label_cut}
use Rattle.evac_law.specs.Cuts.{Cut, leaves_cut, cut_value}
use Rattle.evac_law.specs.Names.{is_exit}
use Rattle.evac_law.specs.Plans.{IsFeasible, moved, held, out_by}
use Rattle.evac_law.specs.Parts.{IsPart}
use Rattle.evac_law.specs.LabelTable.{LabelTable, label_at}
use Rattle.evac_law.proofs.SumLemmas.{All-below, else_le, sum2-le, sum2-nothing, sum2-same_in, sum_by-same}
use Rattle.evac_law.proofs.SumLemmas as sums
use Rattle.evac_law.proofs.Entries.{entered_le, exit_entry, none_late}
use Rattle.evac_law.proofs.EntrantTable.{all_of_table, entering-table_entrants, entrants_are_table}
use Rattle.evac_law.proofs.WeakDuality.{out_le_value}
use Rattle.evac_law.proofs.FewerLemmas.{entry_mono, leaves_same, worth_as_much, worth_less}
use Rattle.evac_law.proofs.ValidLemmas.{arc_is}
use Rattle.evac_law.proofs.Tight.{tight_is_equal}
use Rattle.residual_net.specs.declared.place.Place.TheVariants.{Arc, Hold, Supply}
use Rattle.residual_net.specs.Site.{IsPlace, door_by, head_of, tail_of, arc_count, sum_places}
use Rattle.residual_net.specs.declared.end.End.TheVariants.{Pair, Door}
use Rattle.residual_net.specs.Network.{Network, IsNet, IsWithinLimits, flow_at, limit_at, flow_into, arrived_by}
use Rattle.residual_net.specs.OfModel.{IsNetOf, plan_of}
use Rattle.residual_net.specs.Closed.{IsClosed, reached}
use Rattle.residual_net.proofs.Sent.{restart, sent_model}
use Rattle.residual_net.specs.NetLaws.{labelled}
use Rattle.evac_law.proofs.MoveLemmas.{sum_moves, moved-moves_of, arcs-moves_of}
use Rattle.residual_net.proofs.Held.{came_left, arcs_same, nodes_same, horizon_same, head_is, tail_is}
use Rattle.residual_net.proofs.Quiet.{entering_full, leaving_none, none_past}

-- ---- other starts

length-restart : (f : ℕ → ℕ) (i : ℕ) (rs : List NodeRow) → length (restart f i rs) ≡ length rs
length-restart f i [] = refl
length-restart f i (r ∷ rs) = ap suc (length-restart f (suc i) rs)

restart-at : (f : ℕ → ℕ) (i : ℕ) (rs : List NodeRow) (n : ℕ) (d : NodeRow) → n < length rs
    → get_or (restart f i rs) n d ≡ record (get_or rs n d) { start = f (i + n) }
restart-at f i [] n d l = absurd (omega (arith, l))
restart-at f i (r ∷ rs) zero d l = ap (λ z. record r { start = f z }) (omega arith)
restart-at f i (r ∷ rs) (suc n) d l =
    restart-at f (suc i) rs n d (omega (arith, l)) ∙ ap (λ z. record (get_or rs n d) { start = f z }) (omega arith)

restart-keeps : {X : Type 0} (p : NodeRow → X) → ((r : NodeRow) (s : ℕ) → p (record r { start = s }) ≡ p r)
    → (f : ℕ → ℕ) (i : ℕ) (rs : List NodeRow) (n : ℕ) (d : NodeRow) → p (get_or (restart f i rs) n d) ≡ p (get_or rs n d)
restart-keeps p h f i [] n d = refl
restart-keeps p h f i (r ∷ rs) zero d = h r (f i)
restart-keeps p h f i (r ∷ rs) (suc n) d = restart-keeps p h f (suc i) rs n d

module _ (m : Model) (w : Network) (valid : IsValid m) (net : IsNet w) (of : IsNetOf m w) where
  abbrev plan : List Move
  plan = plan_of w

  abbrev sent : Model
  sent = sent_model m w

  pub exit_same : (n : ℕ) → is_exit_at sent n ≡ is_exit_at m n
  exit_same n = restart-keeps (λ (r : NodeRow). is_exit r.name.kind) (λ r s. refl) (λ n. flow_at w (Supply n 0)) 0 m.nodes n no_node

  pub capacity_same : (n : ℕ) → capacity sent n ≡ capacity m n
  capacity_same n = restart-keeps (λ (r : NodeRow). r.capacity) (λ r s. refl) (λ n. flow_at w (Supply n 0)) 0 m.nodes n no_node

  shut_same : (n : ℕ) → (node_at sent n).shut ≡ (node_at m n).shut
  shut_same n = restart-keeps (λ (r : NodeRow). r.shut) (λ r s. refl) (λ n. flow_at w (Supply n 0)) 0 m.nodes n no_node

  pub rate_same : (a t : ℕ) → rate sent a t ≡ rate m a t
  rate_same a t = ap (λ b. cond (((arc_at m a).shut || b) || is_closed_at (arc_at m a).windows.items t) 0 (arc_at m a).rate) (shut_same (head m a))

  pub count_same : length sent.nodes ≡ length m.nodes
  count_same = length-restart (λ n. flow_at w (Supply n 0)) 0 m.nodes

  node_sent : (n : ℕ) (d : NodeRow) → n < length m.nodes → get_or sent.nodes n d ≡ record (get_or m.nodes n d) { start = flow_at w (Supply n 0) }
  node_sent n d i =
      restart-at (λ n. flow_at w (Supply n 0)) 0 m.nodes n d i ∙ ap (λ z. record (get_or m.nodes n d) { start = flow_at w (Supply z 0) }) (omega arith)

  -- ---- arrivals

  pub arrived_is_out : (k : ℕ) → arrived_by w k ≡ out_by m plan k
  unfolding flow_into sum_places out_by
  arrived_is_out k =
      let moments = w.site.shape.horizon + 1 in
      let arcs = sum2-same_in (arc_count w.site) moments (λ a s. cond (door_by k (head_of w.site (Arc a s))) (flow_at w (Arc a s)) 0)
      (λ a s. cond (is_exit_at m (head m a) && leb (arrival m a s) k) (flow_at w (Arc a s)) 0)
      (λ a s i j. ap (λ z. cond (door_by k z) (flow_at w (Arc a s)) 0) (head_is m w net of valid a s (omega (arith, arcs_same m w net of valid, i)))
      ∙ term (is_exit_at m (head m a)) (head m a) (arrival m a s) (flow_at w (Arc a s))) in
      omega (
        arith,
        arcs,
        sum_moves (arc_count w.site) w.site.shape.horizon (λ a s. flow_at w (Arc a s)) (λ a s. is_exit_at m (head m a) && leb (arrival m a s) k),
        sum2-nothing w.site.shape.nodes moments,
      )
    where
      term : (e : Bool) (h r f : ℕ) → cond (door_by k (cond e (Door r) (Pair h r))) f 0 ≡ cond (e && leb r k) f 0
      term true h r f = refl
      term false h r f = refl

  pub out_same : (k : ℕ) → out_by sent plan k ≡ out_by m plan k
  unfolding out_by
  out_same k = sum_by-same _ _ plan (λ v. ap (λ b. cond (b && leb (arrival m v.arc v.moment) k) v.people 0) (exit_same (head m v.arc)))

  -- ---- within limits

  module _ (within : IsWithinLimits w) where
    in_site : (n t : ℕ) → n < length m.nodes → t ≤ m.horizon → (n < w.site.shape.nodes) × (t ≤ w.site.shape.horizon)
    in_site n t i l = (omega (arith, nodes_same m w net of valid, i), omega (arith, horizon_same m w net of valid, l))

    arc_in_site : (a t : ℕ) → a < length m.arcs → t ≤ m.horizon → IsPlace w.site (Arc a t)
    arc_in_site a t i l = (omega (arith, arcs_same m w net of valid, i), omega (arith, horizon_same m w net of valid, l))

    pub supply_le : (n t : ℕ) → n < length m.nodes → t ≤ m.horizon → flow_at w (Supply n t) ≤ entry m n t
    supply_le n t i l = let p = in_site n t i l in omega (arith, within (Supply n t) p, of.limits (Supply n t) p)

    start_le : (n : ℕ) → n < length m.nodes → flow_at w (Supply n 0) ≤ (node_at m n).start
    start_le n i = supply_le n 0 i (omega arith)

    pub entry_sent : (n t : ℕ) → n < length m.nodes → t ≤ m.horizon → entry sent n t ≡ flow_at w (Supply n t)
    entry_sent n zero i l = ap (λ (r : NodeRow). r.start) (node_sent n no_node i)
    entry_sent n (suc t) i l =
        cond-false (eqb (suc t) 0) (node_at sent n).start (entering sent.entrants n (suc t)) (ne_eqb (suc t) 0 (λ e. omega (arith, e)))
        ∙ entering-table_entrants (length m.nodes) m.horizon (λ n t. flow_at w (Supply n t)) n (suc t) i (omega arith) l

    fewer_people : people sent ≤ people m
    unfolding people entered_by
    fewer_people =
        let flow = λ (n t : ℕ). flow_at w (Supply n t) in
        let starts : sum_by (λ i. (node_at sent i).start) (below (length m.nodes)) ≡ sum_by (λ i. flow i 0) (below (length m.nodes)) =
        sums.sum_by-same_all (λ i. (node_at sent i).start) (λ i. flow i 0) (below (length m.nodes))
        (All-below (λ i. (node_at sent i).start ≡ flow i 0) (length m.nodes) (λ i l. ap (λ (r : NodeRow). r.start) (node_sent i no_node l))) in
        omega (
          arith,
          starts,
          ap (λ c. sum_by (λ i. (node_at sent i).start) (below c)) count_same,
          sums.sum_places (λ (r : NodeRow). r.start) sent.nodes no_node,
          all_of_table (length m.nodes) m.horizon flow,
          sum2-le (length m.nodes) (m.horizon + 1) flow (entry m) (λ n t i j. supply_le n t i (omega (arith, j))),
          entered_le m m.horizon,
        )

    pub valid_sent : IsValid sent
    valid_sent = record {
      seconds = valid.seconds;
      horizon = valid.horizon;
      nodes_fit = omega (arith, count_same, valid.nodes_fit);
      arcs_fit = valid.arcs_fit;
      cells_fit = rw count_same valid.cells_fit;
      people_fit = omega (arith, valid.people_fit, fewer_people);
      nodes = λ n d l. node_ok n d (omega (arith, count_same, l));
      names_differ = λ i j a b e. valid.names_differ i j a (omega (arith, count_same, b)) (sym (name_at i) ∙ e ∙ name_at j);
      arcs = λ a d l. arc_ok a d (valid.arcs a d l);
      ends_differ = valid.ends_differ;
      entrants = λ i d l. entrant_ok (get_or sent.entrants i d) (table.in_range i d l) (table.of_table i d l);
      entrants_sorted = table.sorted;
    }
      where
        table : EntrantsAreTable (length m.nodes) m.horizon (λ n t. flow_at w (Supply n t))
        table = entrants_are_table (length m.nodes) m.horizon (λ n t. flow_at w (Supply n t))

        entrant_ok : (e : Entrant) → (e.node < length m.nodes) × (1 ≤ e.moment) × (e.moment ≤ m.horizon)
            → (1 ≤ e.people) × (e.people ≡ flow_at w (Supply e.node e.moment)) → IsEntrant sent.nodes m.horizon e
        entrant_ok e range people = record {
          node_in = omega (arith, count_same, range.0);
          no_exit = exit_same e.node ∙ false_from_ne_true (is_exit_at m e.node)
              (λ exit. omega (arith, people.0, people.1, supply_le e.node e.moment range.0 range.2, exit_entry m e.node e.moment valid range.0 exit));
          later = range.1;
          in_horizon = range.2;
          somebody = people.0;
        }

        name_at : (i : ℕ) → (node_at sent i).name ≡ (node_at m i).name
        name_at i = restart-keeps (λ (r : NodeRow). r.name) (λ r s. refl) (λ n. flow_at w (Supply n 0)) 0 m.nodes i no_node

        node_ok : (n : ℕ) (d : NodeRow) → n < length m.nodes → IsNode (get_or (restart (λ n. flow_at w (Supply n 0)) 0 m.nodes) n d)
        node_ok n d i =
            let old = valid.nodes n no_node i in
            subst IsNode (sym (node_sent n d i))
            (rw (Rattle.std.proofs.lemmas.List.get_or_default m.nodes n d no_node i)
            (record {
              name = old.name;
              start_fits = omega (arith, start_le n i, old.start_fits);
              capacity_fits = old.capacity_fits;
              exit_is_empty = old.exit_is_empty;
              only_exits_shut = old.only_exits_shut;
            }))

        arc_ok : (a : ℕ) (d : Rattle.evac_law.specs.declared.model.ArcRow.ArcRow) → IsArc m.nodes (get_or m.arcs a d) → IsArc sent.nodes (get_or m.arcs a d)
        arc_ok a d h = record {
          from_in = omega (arith, count_same, h.from_in);
          to_in = omega (arith, count_same, h.to_in);
          apart = h.apart;
          from_no_exit = exit_same (get_or m.arcs a d).from ∙ h.from_no_exit;
          travel_fits = h.travel_fits;
          rate_fits = h.rate_fits;
          windows = h.windows;
        }

    -- ---- the plan

    pub moved_is : (a t : ℕ) → a < length m.arcs → t ≤ m.horizon → moved plan a t ≡ flow_at w (Arc a t)
    moved_is a t i l =
        moved-moves_of (arc_count w.site) w.site.shape.horizon (λ a t. flow_at w (Arc a t)) a t
        (omega (arith, arcs_same m w net of valid, i)) (omega (arith, horizon_same m w net of valid, l))

    pub held_is : (n t : ℕ) → n < length m.nodes → is_exit_at m n ≡ false → t ≤ m.horizon → held sent plan n t ≡ pos (flow_at w (Hold n t))
    unfolding held
    held_is n t i e l =
        let c = came_left m w net of valid sent.nodes sent.entrants n t i e l (λ s h. entry_sent n s i (omega arith)) in
        omega (arith, ints, c)

    pub flow_rate : (a t : ℕ) → a < length m.arcs → t ≤ m.horizon → flow_at w (Arc a t) ≤ rate m a t
    flow_rate a t i l =
        let p = arc_in_site a t i l in
        omega (arith, within (Arc a t) p, of.limits (Arc a t) p, else_le (ltb m.horizon (arrival m a t)) (rate m a t))

    pub hold_capacity : (n t : ℕ) → n < length m.nodes → t ≤ m.horizon → flow_at w (Hold n t) ≤ capacity m n
    hold_capacity n t i l =
        let p = in_site n t i l in
        omega (arith, within (Hold n t) p, of.limits (Hold n t) p, else_le (eqb t m.horizon) (capacity m n))

    pub arcs_in : All (λ (v : Move). v.arc < length m.arcs) plan
    arcs_in = subst (λ z. All (λ (v : Move). v.arc < z) plan) (arcs_same m w net of valid)
        (arcs-moves_of (arc_count w.site) w.site.shape.horizon (λ a t. flow_at w (Arc a t)))

    pub feasible : (k : ℕ) → k ≤ m.horizon → IsFeasible sent plan k
    feasible k l = record {
      arcs = arcs_in;
      rates = λ a t i j. omega (arith, moved_is a t i (omega arith), flow_rate a t i (omega arith), rate_same a t);
      holds = λ n t i e j. hold_ok n t (omega (arith, count_same, i)) (sym (exit_same n) ∙ e) (omega arith);
    }
      where
        hold_ok : (n t : ℕ) → n < length m.nodes → is_exit_at m n ≡ false → t ≤ m.horizon
            → (pos 0 ≤ℤ held sent plan n t) × (held sent plan n t ≤ℤ pos (capacity sent n))
        hold_ok n t i e h =
            let is = held_is n t i e h in
            let few = hold_capacity n t i h in
            let cap = capacity_same n in
            (omega (arith, ints, is), omega (arith, ints, is, few, cap))

    -- ---- cuts

    entry_less : (n t : ℕ) → (n < length m.nodes) ⊎ (length m.nodes ≤ n) → (m.horizon < t) ⊎ (t ≤ m.horizon) → entry sent n t ≤ entry m n t
    entry_less n t (inr past) late = omega (arith, Rattle.evac_law.proofs.Entries.none_past sent n t valid_sent (omega (arith, past, count_same)))
    entry_less n t (inl i) (inl late) = omega (arith, none_late sent n t valid_sent late)
    entry_less n t (inl i) (inr j) = omega (arith, entry_sent n t i j, supply_le n t i j)

    pub part : IsPart m sent
    part = record {
      nodes = count_same;
      arcs = refl;
      horizon = refl;
      exits = exit_same;
      heads = λ a. refl;
      tails = λ a. refl;
      travels = λ a. refl;
      rates = rate_same;
      capacities = capacity_same;
      entries = λ n t. entry_less n t (cases_lt n (length m.nodes)) (cases_lt m.horizon t);
    }

    -- no cut is worth fewer than have arrived
    pub arrived_within : (x : Cut) (k : ℕ) → k ≤ m.horizon → arrived_by w k ≤ cut_value m x k
    arrived_within x k l =
        omega (arith, arrived_is_out k, out_same k, out_le_value sent x plan k valid_sent (feasible k l), worth_less m sent part x k)

    -- ---- closed sets

    module _ (l : LabelTable) (k : ℕ) (k_in : k ≤ m.horizon) (closed : IsClosed w (labelled l k) k) where
      abbrev x : Cut
      x = label_cut m l k

      abbrev s : ℕ → ℕ → Bool
      s = labelled l k

      turn : (b c : Bool) (i : ℕ) → b ≡ true → c ≡ false → (b && (not c && ltb k i)) ≡ not (leb i k)
      turn b c i e f = grind (arith, nat_tests)

      -- inside the moments up to k the cut is what the set leaves
      cut_is : (n t : ℕ) → is_exit_at m n ≡ false → t ≤ k → x n t ≡ not (s n t)
      cut_is n t e h = turn (leb t k) (is_exit_at m n) (label_at l n t) (le-leb t k h) e

      flip : (b c : Bool) → b ≡ not c → (b ≡ true → c ≡ false) × (b ≡ false → c ≡ true)
      flip b c e = ((λ u. grind arith), (λ u. grind arith))

      hold_limit : (n t : ℕ) → n < length m.nodes → t < k → limit_at w (Hold n t) ≡ capacity m n
      hold_limit n t i h =
          of.limits (Hold n t) (in_site n t i (omega arith)) ∙ ap (λ b. cond b 0 (capacity m n)) (ne_eqb t m.horizon (omega arith))

      arc_limit : (a t : ℕ) → a < length m.arcs → t ≤ m.horizon → arrival m a t ≤ m.horizon → limit_at w (Arc a t) ≡ rate m a t
      arc_limit a t i h r =
          of.limits (Arc a t) (arc_in_site a t i h) ∙ ap (λ b. cond b 0 (rate m a t)) (Rattle.std.proofs.lemmas.Bool.le-ltb m.horizon (arrival m a t) r)

      hold_full : (n t : ℕ) → n < length m.nodes → is_exit_at m n ≡ false → t < k → x n t ≡ true → x n (t + 1) ≡ false
          → flow_at w (Hold n t) ≡ capacity m n
      hold_full n t i e h u v =
          let from = (flip (x n t) (s n t) (cut_is n t e (omega arith))).0 u in
          let to = (flip (x n (t + 1)) (s n (t + 1)) (cut_is n (t + 1) e (omega arith))).1 v in
          let p = in_site n t i (omega arith) in
          omega (arith, entering_full w s k closed (Hold n t) p to from, within (Hold n t) p, hold_limit n t i h)

      hold_empty : (n t : ℕ) → n < length m.nodes → is_exit_at m n ≡ false → t < k → x n t ≡ false → x n (t + 1) ≡ true
          → flow_at w (Hold n t) ≡ 0
      hold_empty n t i e h u v =
          let from = (flip (x n t) (s n t) (cut_is n t e (omega arith))).1 u in
          let to = (flip (x n (t + 1)) (s n (t + 1)) (cut_is n (t + 1) e (omega arith))).0 v in
          leaving_none w s k closed (Hold n t) (in_site n t i (omega arith)) from to

      hold_last : (n : ℕ) → n < length m.nodes → is_exit_at m n ≡ false → x n k ≡ false → flow_at w (Hold n k) ≡ 0
      hold_last n i e u =
          let from = (flip (x n k) (s n k) (cut_is n k e (omega arith))).1 u in
          none_past w s k net closed (Hold n k) (in_site n k i k_in) from n (k + 1) refl (omega arith)

      at_exit : (a t : ℕ) → a < length m.arcs → is_exit_at m (head m a) ≡ true → head_of w.site (Arc a t) ≡ Door (arrival m a t)
      at_exit a t i e = head_is m w net of valid a t i ∙ ap (λ b. cond b (Door (arrival m a t)) (Pair (head m a) (arrival m a t))) e

      at_pair : (a t : ℕ) → a < length m.arcs → is_exit_at m (head m a) ≡ false → head_of w.site (Arc a t) ≡ Pair (head m a) (arrival m a t)
      at_pair a t i e = head_is m w net of valid a t i ∙ ap (λ b. cond b (Door (arrival m a t)) (Pair (head m a) (arrival m a t))) e

      tail_reached : (a t : ℕ) → a < length m.arcs → reached s k (tail_of w.site (Arc a t)) ≡ s (tail m a) t
      tail_reached a t i = ap (reached s k) (tail_is m w net of valid a t i)

      from_set : (a t : ℕ) → a < length m.arcs → t ≤ k → x (tail m a) t ≡ true → reached s k (tail_of w.site (Arc a t)) ≡ false
      from_set a t i h u = tail_reached a t i ∙ (flip (x (tail m a) t) (s (tail m a) t) (cut_is (tail m a) t (arc_is m a valid i).from_no_exit h)).0 u

      to_set : (a t : ℕ) → a < length m.arcs → arrival m a t ≤ k → leb (arrival m a t) k ≡ true
          → (is_exit_at m (head m a) || not (x (head m a) (arrival m a t))) ≡ true
          → (is_exit_at m (head m a) ≡ true) ⊎ (is_exit_at m (head m a) ≡ false) → reached s k (head_of w.site (Arc a t)) ≡ true
      to_set a t i h g u (inl e) = ap (reached s k) (at_exit a t i e) ∙ g
      to_set a t i h g u (inr e) =
          ap (reached s k) (at_pair a t i e)
          ∙ (flip (x (head m a) (arrival m a t)) (s (head m a) (arrival m a t)) (cut_is (head m a) (arrival m a t) e h)).1
          (outside (is_exit_at m (head m a)) (x (head m a) (arrival m a t)) e u)
        where
          outside : (b c : Bool) → b ≡ false → (b || not c) ≡ true → c ≡ false
          outside b c g h = grind arith

      arc_full : (a t : ℕ) → a < length m.arcs → t ≤ k → leaves_cut m x k t a ≡ true → flow_at w (Arc a t) ≡ rate m a t
      arc_full a t i h u =
          let parts = and_parts (x (tail m a) t) (leb (arrival m a t) k && (is_exit_at m (head m a) || not (x (head m a) (arrival m a t)))) u in
          let more = and_parts (leb (arrival m a t) k) (is_exit_at m (head m a) || not (x (head m a) (arrival m a t))) parts.1 in
          let in_time : arrival m a t ≤ k = leb-true (arrival m a t) k more.0 in
          let p = arc_in_site a t i (omega arith) in
          omega (
            arith,
            entering_full w s k closed (Arc a t) p (to_set a t i in_time more.0 more.1 (cases_Bool (is_exit_at m (head m a)))) (from_set a t i h parts.0),
            within (Arc a t) p,
            arc_limit a t i (omega arith) (omega arith),
          )

      arc_empty : (a t : ℕ) → a < length m.arcs → t ≤ k → x (tail m a) t ≡ false
          → (leb (arrival m a t) k && (is_exit_at m (head m a) || not (x (head m a) (arrival m a t)))) ≡ false → flow_at w (Arc a t) ≡ 0
      arc_empty a t i h u v =
          let p = arc_in_site a t i (omega arith) in
          let arc = arc_is m a valid i in
          let inside = tail_reached a t i ∙ (flip (x (tail m a) t) (s (tail m a) t) (cut_is (tail m a) t arc.from_no_exit h)).1 u in
          elim (cases_Bool (is_exit_at m (head m a))) [
            | inl e ↦
                let head_at = at_exit a t i e in
                let late = exit_late (leb (arrival m a t) k) (is_exit_at m (head m a)) (x (head m a) (arrival m a t)) e v in
                leaving_none w s k closed (Arc a t) p inside (ap (reached s k) head_at ∙ late)
            | inr e ↦
                let head_at = at_pair a t i e in
                elim (cases_lt k (arrival m a t)) [
                  | inl late ↦ none_past w s k net closed (Arc a t) p inside (head m a) (arrival m a t) head_at late
                  | inr early ↦
                      let member = pair_in (leb (arrival m a t) k) (is_exit_at m (head m a)) (x (head m a) (arrival m a t)) (le-leb _ _ early) e v in
                      leaving_none w s k closed (Arc a t) p inside
                      (ap (reached s k) head_at ∙ (flip _ _ (cut_is (head m a) (arrival m a t) e early)).0 member)
                ]
          ]
        where
          exit_late : (b e c : Bool) → e ≡ true → (b && (e || not c)) ≡ false → b ≡ false
          exit_late b e c h i = grind arith

          pair_in : (b e c : Bool) → b ≡ true → e ≡ false → (b && (e || not c)) ≡ false → c ≡ true
          pair_in b e c g h i = grind arith

      tight : IsTight sent plan x k
      tight = record {
        holds_full = λ n t i e h u v.
            let j : n < length m.nodes = omega (arith, count_same, i) in
            let open_node = sym (exit_same n) ∙ e in
            held_is n t j open_node (omega arith) ∙ ap pos (hold_full n t j open_node h u v ∙ sym (capacity_same n));
        holds_empty = λ n t i e h u v.
            let j : n < length m.nodes = omega (arith, count_same, i) in
            let open_node = sym (exit_same n) ∙ e in
            held_is n t j open_node (omega arith) ∙ ap pos (hold_empty n t j open_node h u v);
        nobody_left = λ n i e u.
            let j : n < length m.nodes = omega (arith, count_same, i) in
            let open_node = sym (exit_same n) ∙ e in
            held_is n k j open_node k_in ∙ ap pos (hold_last n j open_node u);
        arcs_full = λ a t i h u. moved_is a t i (omega arith) ∙ arc_full a t i h (sym (leaves_same m sent part x k t a) ∙ u) ∙ sym (rate_same a t);
        arcs_empty = λ a t i h u v.
            moved_is a t i (omega arith)
            ∙ arc_empty a t i h u
            (sym (ap (λ b. leb (arrival m a t) k && (b || not (x (head m a) (arrival m a t)))) (exit_same (head m a))) ∙ v);
      }

      -- where the set is reached, everyone was sent
      all_sent : (n t : ℕ) → n < length m.nodes → t < k + 1 → is_exit_at m n ≡ false → x n t ≡ false → entry m n t ≤ entry sent n t
      all_sent n t i h e u =
          let p = in_site n t i (omega arith) in
          let to = (flip (x n t) (s n t) (cut_is n t e (omega arith))).1 u in
          omega (arith, entering_full w s k closed (Supply n t) p to refl, of.limits (Supply n t) p, entry_sent n t i (omega arith))

      entry_ge : (n t : ℕ) → n < length m.nodes → t < k + 1
          → cond (x n t || eqb (entry m n t) 0) 0 (entry m n t) ≤ cond (x n t || eqb (entry sent n t) 0) 0 (entry sent n t)
      entry_ge n t i h = by_cut (cases_Bool (x n t)) (cases_Bool (is_exit_at m n))
        where
          by_cut : (x n t ≡ true) ⊎ (x n t ≡ false) → (is_exit_at m n ≡ true) ⊎ (is_exit_at m n ≡ false)
              → cond (x n t || eqb (entry m n t) 0) 0 (entry m n t) ≤ cond (x n t || eqb (entry sent n t) 0) 0 (entry sent n t)
          by_cut (inl u) e = rw u (omega arith)
          by_cut (inr u) (inl e) = rw u (let none = exit_entry m n t valid i e in entry_mono false (entry m n t) (entry sent n t) (omega (arith, none)))
          by_cut (inr u) (inr e) = rw u (entry_mono false (entry m n t) (entry sent n t) (all_sent n t i h e u))

      -- as many have arrived as the cut of the labels is worth
      pub closed_is_cut : arrived_by w k ≡ cut_value m x k
      closed_is_cut =
          let equal = tight_is_equal sent x plan k valid_sent (feasible k k_in) tight in
          omega (arith, arrived_is_out k, out_same k, equal, worth_less m sent part x k, worth_as_much m sent part x k entry_ge)
