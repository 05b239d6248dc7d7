-- A model's parts by place, its rates, entries and people, and when it is valid.
use Rattle.std.specs.Prelude.{◌≡◌, ◌≢◌, ℕ, ◌+◌, ◌*◌, ◌<◌, ◌≤◌, Bool, true, false, ◌||◌, if◌then◌else◌, ◌==◌, List, [], length, slice_index_or, IsTrue, IsFalse}
use Rattle.std.specs.List.{sum_by, All, AllPairs}
use Rattle.evac_law.specs.Entrants.{ComesBefore, entering}
use Rattle.evac_law.specs.Limits.{seconds_limit, horizon_limit, node_limit, arc_limit, travel_limit, rate_limit, capacity_limit, people_limit, cell_limit}
use Rattle.evac_law.specs.Names.{is_exit, IsName}
use Rattle.evac_law.specs.Sums.{moments_to, places}
use Rattle.evac_law.specs.Windows.{AreWindows, is_closed_at}
use Rattle.evac_law.specs.declared.entrant.Entrant.{Entrant}
use Rattle.evac_law.specs.declared.name.Kind.TheVariants.{Work}
use Rattle.evac_law.specs.declared.name.NodeName.{NodeName}
use Rattle.evac_law.specs.declared.model.NodeRow.{NodeRow}
use Rattle.evac_law.specs.declared.model.ArcRow.{ArcRow}
use Rattle.evac_law.specs.declared.model.Model.{Model}

-- ---- parts

-- a node and an arc that aren't shut, the arc without closure windows
abbrev pub node_row : NodeName → ℕ → ℕ → NodeRow
node_row name capacity start = record { name = name; capacity = capacity; start = start; shut = false }

abbrev pub arc_row : ℕ → ℕ → ℕ → ℕ → ArcRow
arc_row from to travel rate =
    record { from = from; to = to; travel = travel; rate = rate; shut = false; windows = record { items = [] } }

-- ---- parts by place

-- what stands past the end of a list: a node of no people, an arc that is shut
abbrev pub no_node : NodeRow
no_node = record { name = record { kind = Work; number = 0; floor = 0 }; capacity = 0; start = 0; shut = false }

abbrev pub no_arc : ArcRow
no_arc = record { from = 0; to = 0; travel = 0; rate = 0; shut = true; windows = record { items = [] } }

-- the node and the arc at a place
abbrev pub node_at : Model → ℕ → NodeRow
node_at m n = slice_index_or m.nodes n no_node

abbrev pub arc_at : Model → ℕ → ArcRow
arc_at m a = slice_index_or m.arcs a no_arc

-- whether the node at a place is an exit
abbrev pub is_exit_at : Model → ℕ → Bool
is_exit_at m n = is_exit (node_at m n).name.kind

-- the most people who may be in a node
abbrev pub capacity : Model → ℕ → ℕ
capacity m n = (node_at m n).capacity

-- the people in a node at moment 0
abbrev pub start : Model → ℕ → ℕ
start m n = (node_at m n).start

-- the node that an arc leaves, and the one that it enters
abbrev pub tail : Model → ℕ → ℕ
tail m a = (arc_at m a).from

abbrev pub head : Model → ℕ → ℕ
head m a = (arc_at m a).to

-- when people arrive who enter an arc at a moment
abbrev pub arrival : Model → ℕ → ℕ → ℕ
arrival m a t = t + (arc_at m a).travel

-- ---- rate, entry, people

-- the most people who may enter an arc at a moment: none where it is shut, leads to a shut exit or has a window then
abbrev pub rate : Model → ℕ → ℕ → ℕ
rate m a t =
    if (arc_at m a).shut || (node_at m (head m a)).shut || is_closed_at (arc_at m a).windows.items t then 0 else (arc_at m a).rate

-- the people who come into a node at a moment from nowhere: its start at moment 0, and later its entrant of that moment
abbrev pub entry : Model → ℕ → ℕ → ℕ
entry m n t = if t == 0 then start m n else entering m.entrants n t

-- the people of the model: the sum of the starts and of the entrants' people
unfoldable pub people : Model → ℕ
people m = sum_by (λ n. n.start) m.nodes + sum_by (λ e. e.people) m.entrants

-- the people who come in by a moment, over all nodes
unfoldable pub entered_by : Model → ℕ → ℕ
entered_by m k = sum_by (λ n. sum_by (entry m n) (moments_to k)) (places m.nodes)

-- ---- valid models

-- nobody starts above the capacity, an exit has none, and only an exit is shut
pub record IsNode (n : NodeRow) : Type 0 where
  pub name : IsName n.name
  pub start_fits : n.start ≤ n.capacity
  pub capacity_fits : n.capacity ≤ capacity_limit
  pub exit_is_empty : IsTrue (is_exit n.name.kind) → n.capacity ≡ 0
  pub only_exits_shut : IsTrue n.shut → IsTrue (is_exit n.name.kind)

-- the arc joins two different nodes of the list, leaves no exit, and its closure windows are in order
pub record IsArc (nodes : List NodeRow) (a : ArcRow) : Type 0 where
  pub from_in : a.from < length nodes
  pub to_in : a.to < length nodes
  pub apart : a.from ≢ a.to
  pub from_no_exit : IsFalse (is_exit (slice_index_or nodes a.from no_node).name.kind)
  pub travel_fits : (1 ≤ a.travel) × (a.travel ≤ travel_limit)
  pub rate_fits : a.rate ≤ rate_limit
  pub windows : AreWindows a.windows.items

-- somebody comes into a node of the list that is no exit, after moment 0 and by the horizon
pub record IsEntrant (nodes : List NodeRow) (horizon : ℕ) (e : Entrant) : Type 0 where
  pub node_in : e.node < length nodes
  pub no_exit : IsFalse (is_exit (slice_index_or nodes e.node no_node).name.kind)
  pub later : 1 ≤ e.moment
  pub in_horizon : e.moment ≤ horizon
  pub somebody : 1 ≤ e.people

-- the numbers keep the limits, nodes, arcs and entrants are lawful, no two nodes have one name and no two arcs the same ends, and
-- the entrants stand by node and then moment, no two with the same
pub record IsValid (m : Model) : Type 0 where
  pub seconds : (1 ≤ m.seconds) × (m.seconds ≤ seconds_limit)
  pub horizon : m.horizon ≤ horizon_limit
  pub nodes_fit : length m.nodes ≤ node_limit
  pub arcs_fit : length m.arcs ≤ arc_limit
  pub cells_fit : (length m.nodes + length m.arcs) * (m.horizon + 1) ≤ cell_limit
  pub people_fit : people m ≤ people_limit
  pub nodes : All IsNode m.nodes
  pub names_differ : (i j : ℕ) → i < j → j < length m.nodes → (node_at m i).name ≢ (node_at m j).name
  pub arcs : All (IsArc m.nodes) m.arcs
  pub ends_differ : (i j : ℕ) → i < j → j < length m.arcs → tail m i ≡ tail m j → head m i ≢ head m j
  pub entrants : All (IsEntrant m.nodes m.horizon) m.entrants
  pub entrants_sorted : AllPairs ComesBefore m.entrants
