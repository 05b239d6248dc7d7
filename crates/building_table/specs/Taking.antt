-- What a part does to what a builder holds.
use Rattle.std.specs.Prelude.{◌≡◌, ℕ, ◌+◌, ◌*◌, ◌≤◌, Bool, not, ◌||◌, ◌==◌, nat_lt, nat_le, List, [], ◌∷◌, ◌++◌, length, map, is_some, is_none, unwrap_or, Result, None, OnOk, OnErr, IfErr}
use Rattle.std.specs.List.{list_any, sum_by}
use Rattle.evac_law.specs.declared.code.Code.{Code}
use Rattle.evac_law.specs.declared.code.Code.TheVariants.{RepeatedSetting, UnknownFloor, RepeatedNode, OverFull, UnknownNode, SameNode, FromExit, RepeatedArc, TooMany, MissingSetting, NoExit, TooLarge, BadWindow, WindowOverlap, TooManyWindows, EntrantLate, RepeatedEntrant, NoArc, ExitNamed}
use Rattle.evac_law.specs.Limits.{floor_limit, node_limit, arc_limit, people_limit, cell_limit, window_limit}
use Rattle.evac_law.specs.Building.{arc_row, node_row}
use Rattle.evac_law.specs.Names.{is_exit}
use Rattle.evac_law.specs.Windows.{overlaps, window_of}
use Rattle.evac_law.specs.declared.entrant.Entrant.{Entrant}
use Rattle.evac_law.specs.declared.name.NodeName.{NodeName}
use Rattle.evac_law.specs.declared.model.NodeRow.{NodeRow}
use Rattle.evac_law.specs.declared.model.ArcRow.{ArcRow}
use Rattle.evac_law.specs.declared.window.Window.{Window}
use Rattle.building_table.specs.declared.faults.BuildFault.{BuildFault}
use Rattle.building_table.specs.Built.{Built, build_code}
use Rattle.building_table.specs.Names.{NameLists}
use Rattle.model_text.specs.Taken.{closing, entrant_of, first_code, is_coming, joins, place_of_arc, place_of_node, same_name, arc_windows, with_entrant}

-- whether it holds a floor of a number, a node of a name, an arc between two names, an entrant at a node and a moment
abbrev pub holds_floor : Built → ℕ → Bool
holds_floor b floor = list_any (λ f. f == floor) b.floors

abbrev pub holds_node : Built → NodeName → Bool
holds_node b name = list_any (λ n. same_name n.name name) b.nodes

abbrev pub holds_arc : Built → NodeName → NodeName → Bool
holds_arc b start finish = list_any (joins (place_of_node b.nodes start) (place_of_node b.nodes finish)) b.arcs

abbrev pub holds_entrant : Built → NodeName → ℕ → Bool
holds_entrant b name moment = list_any (is_coming (place_of_node b.nodes name) moment) b.entrants

-- the place of the arc between two names, and the windows of that arc
abbrev pub place_held : Built → NodeName → NodeName → ℕ
place_held b start finish = place_of_arc b.arcs (place_of_node b.nodes start) (place_of_node b.nodes finish)

abbrev pub windows_held : Built → NodeName → NodeName → List Window
windows_held b start finish = arc_windows b.arcs (place_held b start finish)

-- the people who start somewhere or come in later
abbrev pub people_held : List NodeRow → List Entrant → ℕ
people_held nodes entrants = sum_by (λ n. n.start) nodes + sum_by (λ e. e.people) entrants

-- the checks of a part in their order, each with its code
abbrev pub title_checks : Built → List (Bool × Code)
title_checks b = (is_some b.title, RepeatedSetting) ∷ []

abbrev pub period_checks : Built → List (Bool × Code)
period_checks b = (is_some b.seconds, RepeatedSetting) ∷ []

abbrev pub horizon_checks : Built → List (Bool × Code)
horizon_checks b = (is_some b.horizon, RepeatedSetting) ∷ []

abbrev pub floor_checks : Built → ℕ → List (Bool × Code)
floor_checks b floor = (holds_floor b floor, RepeatedSetting) ∷ (nat_le floor_limit (length b.floors), TooMany) ∷ []

abbrev pub room_checks : Built → NodeName → ℕ → ℕ → List (Bool × Code)
room_checks b name capacity start =
    (not (holds_floor b name.floor), UnknownFloor) ∷ (holds_node b name, RepeatedNode) ∷ (nat_lt capacity start, OverFull)
    ∷ (nat_le node_limit (length b.nodes) || nat_lt people_limit (people_held b.nodes b.entrants + start), TooMany) ∷ []

abbrev pub exit_checks : Built → NodeName → List (Bool × Code)
exit_checks b name =
    (not (holds_floor b name.floor), UnknownFloor) ∷ (holds_node b name, RepeatedNode) ∷ (nat_le node_limit (length b.nodes), TooMany) ∷ []

abbrev pub arc_checks : Built → NodeName → NodeName → List (Bool × Code)
arc_checks b start finish =
    (not (holds_node b start), UnknownNode) ∷ (not (holds_node b finish), UnknownNode) ∷ (same_name start finish, SameNode)
    ∷ (is_exit start.kind, FromExit) ∷ (holds_arc b start finish, RepeatedArc) ∷ (nat_le arc_limit (length b.arcs), TooMany) ∷ []

abbrev pub window_checks : Built → NodeName → NodeName → ℕ → ℕ → List (Bool × Code)
window_checks b start finish first until =
    (not (holds_node b start), UnknownNode) ∷ (not (holds_node b finish), UnknownNode) ∷ (not (holds_arc b start finish), NoArc)
    ∷ (nat_le until first, BadWindow) ∷ (list_any (λ v. overlaps v (window_of first until)) (windows_held b start finish), WindowOverlap)
    ∷ (nat_le window_limit (length (windows_held b start finish)), TooManyWindows) ∷ []

-- the last two of these, of the windows of the arc
abbrev pub close_checks : List Window → Window → List (Bool × Code)
close_checks windows window =
    (list_any (λ v. overlaps v window) windows, WindowOverlap) ∷ (nat_le window_limit (length windows), TooManyWindows) ∷ []

abbrev pub entrant_checks : Built → NodeName → ℕ → ℕ → List (Bool × Code)
entrant_checks b name moment people =
    (not (holds_node b name), UnknownNode) ∷ (is_exit name.kind, ExitNamed) ∷ (holds_entrant b name moment, RepeatedEntrant)
    ∷ (nat_lt people_limit (people_held b.nodes b.entrants + people), TooMany) ∷ []

-- the checks of the end
abbrev pub end_checks : Built → List (Bool × Code)
end_checks b =
    (is_none b.seconds || is_none b.horizon, MissingSetting) ∷ (not (list_any (λ n. is_exit n.name.kind) b.nodes), NoExit)
    ∷ (nat_lt cell_limit ((length b.nodes + length b.arcs) * (unwrap_or b.horizon 0 + 1)), TooLarge)
    ∷ (list_any (λ e. nat_lt (unwrap_or b.horizon 0) e.moment) b.entrants, EntrantLate) ∷ []

-- with one more floor, node, arc, window or entrant
abbrev pub with_floor : Built → ℕ → List ℕ → Built
with_floor b floor text = record b { floors = b.floors ++ (floor ∷ []); texts = b.texts ++ (text ∷ []) }

abbrev pub adding_node : Built → NodeName → ℕ → ℕ → Built
adding_node b name capacity start = record b { nodes = b.nodes ++ (node_row name capacity start ∷ []) }

abbrev pub adding_arc : Built → NodeName → NodeName → ℕ → ℕ → Built
adding_arc b start finish travel rate =
    record b { arcs = b.arcs ++ (arc_row (place_of_node b.nodes start) (place_of_node b.nodes finish) travel rate ∷ []) }

abbrev pub adding_window : Built → NodeName → NodeName → ℕ → ℕ → Built
adding_window b start finish first until = record b { arcs = closing b.arcs (place_held b start finish) (window_of first until) }

abbrev pub adding_entrant : Built → NodeName → ℕ → ℕ → Built
adding_entrant b name moment people =
    record b { entrants = with_entrant b.entrants (entrant_of (place_of_node b.nodes name) moment people) }

-- `Ok` comes where no check holds, and the builder then holds what it should; a fault is that of the first check that holds, and changes nothing
pub record TakesPart (result : Result (Unit {0}) BuildFault) (checks : List (Bool × Code)) (old new after : Built) : Type 0 where
  pub right : OnOk result (first_code checks ≡ None)
  pub made : OnOk result (new ≡ after)
  pub fault : IfErr result (λ f. first_code checks ≡ build_code f)
  pub same : OnErr result (new ≡ old)

-- what a builder keeps true: the index and the people are those of the nodes, the arcs and the entrants, and the limits hold
pub record IsBuilder (floors : List ℕ) (texts : ℕ) (nodes : List NodeRow) (arcs : List ArcRow) (entrants : List Entrant) (index : NameLists) (people : ℕ) : Type 0 where
  pub listed_nodes : index.nodes ≡ map (λ n. n.name) nodes
  pub listed_arcs : index.ends ≡ map (λ a. (a.from, a.to)) arcs
  pub counted : people ≡ people_held nodes entrants
  pub few_people : people ≤ people_limit
  pub few_floors : length floors ≤ floor_limit
  pub few_nodes : length nodes ≤ node_limit
  pub few_arcs : length arcs ≤ arc_limit
  pub same_floors : length floors ≡ texts
