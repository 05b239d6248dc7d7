-- What parts have described so far, and when one more is refused. They stand in a list with the last one first.
use Rattle.std.specs.Prelude.{◌≡◌, ℕ, ◌+◌, ◌*◌, Bool, true, false, not, ◌&&◌, ◌||◌, ◌==◌, nat_lt, nat_le, if◌then◌else◌, List, [], ◌∷◌, ◌++◌, length, slice_index_or, slice_set, is_some, is_none, unwrap_or, map, Some, None}
use Rattle.std.specs.declared.option.Option.{Option}
use Rattle.std.specs.List.{list_any, position_or_len, sum_by}
use Rattle.evac_law.specs.declared.code.Code.{Code}
use Rattle.evac_law.specs.declared.code.Code.TheVariants.{RepeatedSetting, UnknownFloor, RepeatedNode, OverFull, UnknownNode, SameNode, FromExit, RepeatedArc, TooMany, MissingSetting, NoExit, TooLarge, BadWindow, WindowOverlap, TooManyWindows, EntrantLate, RepeatedEntrant, NoArc, ExitNamed}
use Rattle.evac_law.specs.Building.{arc_row, no_arc, node_row}
use Rattle.evac_law.specs.Limits.{floor_limit, node_limit, arc_limit, people_limit, cell_limit, window_limit}
use Rattle.evac_law.specs.Names.{is_exit}
use Rattle.evac_law.specs.Windows.{overlaps, window_of, with_window}
use Rattle.evac_law.specs.declared.entrant.Entrant.{Entrant as Coming}
use Rattle.evac_law.specs.declared.name.Kind.{Kind}
use Rattle.evac_law.specs.declared.name.Kind.TheVariants as kinds
use Rattle.evac_law.specs.declared.name.NodeName.{NodeName}
use Rattle.evac_law.specs.declared.model.NodeRow.{NodeRow}
use Rattle.evac_law.specs.declared.model.ArcRow.{ArcRow}
use Rattle.evac_law.specs.declared.model.Model.{Model}
use Rattle.evac_law.specs.declared.window.Window.{Window as ClosureWindow}
use Rattle.model_text.specs.Grammar.{SaidPart, IsSaidPart, Title, Period, Horizon, Floor, Node, Exit, Arc, Window, Entrant}

-- ---- names

-- whether two kinds, or two names, are the same
abbrev pub same_kind : Kind → Kind → Bool
same_kind kinds.Work kinds.Work = true
same_kind kinds.Hall kinds.Hall = true
same_kind kinds.Stair kinds.Stair = true
same_kind kinds.Lobby kinds.Lobby = true
same_kind kinds.Exit kinds.Exit = true
same_kind _ _ = false

abbrev pub same_name : NodeName → NodeName → Bool
same_name a b = same_kind a.kind b.kind && (a.number == b.number && a.floor == b.floor)

-- ---- what parts have described

-- the title's text
abbrev pub title_of : List SaidPart → Option (List ℕ)
title_of [] = None
title_of (Title text ∷ before) = Some text
title_of (_ ∷ before) = title_of before

-- the seconds of a period
abbrev pub seconds_of : List SaidPart → Option ℕ
seconds_of [] = None
seconds_of (Period seconds ∷ before) = Some seconds
seconds_of (_ ∷ before) = seconds_of before

-- the last moment
abbrev pub horizon_of : List SaidPart → Option ℕ
horizon_of [] = None
horizon_of (Horizon moments ∷ before) = Some moments
horizon_of (_ ∷ before) = horizon_of before

-- the floors with their texts, in their order
abbrev pub floors_of : List SaidPart → List (ℕ × List ℕ)
floors_of [] = []
floors_of (Floor floor text ∷ before) = floors_of before ++ ((floor, text) ∷ [])
floors_of (_ ∷ before) = floors_of before

-- the nodes in their order, none shut; an exit has no capacity and no start
abbrev pub nodes_of : List SaidPart → List NodeRow
nodes_of [] = []
nodes_of (Node name capacity start ∷ before) = nodes_of before ++ (node_row name capacity start ∷ [])
nodes_of (Exit name ∷ before) = nodes_of before ++ (node_row name 0 0 ∷ [])
nodes_of (_ ∷ before) = nodes_of before

-- the place of the first node of a name, or the number of nodes
abbrev pub place_of_node : List NodeRow → NodeName → ℕ
place_of_node nodes name = position_or_len (λ n. same_name n.name name) nodes

-- whether an arc joins the places of two nodes, and the place of the first that does, or the number of arcs
abbrev pub joins : ℕ → ℕ → ArcRow → Bool
joins start finish a = a.from == start && a.to == finish

abbrev pub place_of_arc : List ArcRow → ℕ → ℕ → ℕ
place_of_arc arcs start finish = position_or_len (joins start finish) arcs

-- the windows of the arc at a place, and the arcs with one more window of it
abbrev pub arc_windows : List ArcRow → ℕ → List ClosureWindow
arc_windows arcs place = (slice_index_or arcs place no_arc).windows.items

abbrev pub closing : List ArcRow → ℕ → ClosureWindow → List ArcRow
closing arcs place window =
    slice_set arcs place (record (slice_index_or arcs place no_arc) { windows = record { items = with_window (arc_windows arcs place) window } })

-- the arcs in their order, none shut, between the places of their names, each with the windows said of it
abbrev pub arcs_of : List SaidPart → List ArcRow
arcs_of [] = []
arcs_of (Arc start finish travel rate ∷ before) =
    arcs_of before ++ (arc_row (place_of_node (nodes_of before) start) (place_of_node (nodes_of before) finish) travel rate ∷ [])
arcs_of (Window start finish first until ∷ before) =
    closing (arcs_of before) (place_of_arc (arcs_of before) (place_of_node (nodes_of before) start) (place_of_node (nodes_of before) finish))
    (window_of first until)
arcs_of (_ ∷ before) = arcs_of before

-- whether one entrant comes before another: at a node with a smaller place, or at the same node and earlier
abbrev pub comes_before : Coming → Coming → Bool
comes_before e f = nat_lt e.node f.node || (e.node == f.node && nat_lt e.moment f.moment)

-- the entrants with one more, before the first that it comes before
abbrev pub with_entrant : List Coming → Coming → List Coming
with_entrant [] e = e ∷ []
with_entrant (f ∷ fs) e = if comes_before e f then e ∷ f ∷ fs else f ∷ with_entrant fs e

-- the entrant of three numbers
abbrev pub entrant_of : ℕ → ℕ → ℕ → Coming
entrant_of node moment people = record { node = node; moment = moment; people = people }

-- the entrants by node and then by moment
abbrev pub entrants_of : List SaidPart → List Coming
entrants_of [] = []
entrants_of (Entrant name moment people ∷ before) =
    with_entrant (entrants_of before) (entrant_of (place_of_node (nodes_of before) name) moment people)
entrants_of (_ ∷ before) = entrants_of before

-- ---- when one more is refused

-- whether there is a floor of a number, a node of a name, an arc between two names, an entrant at a node and a moment
abbrev pub has_floor : List SaidPart → ℕ → Bool
has_floor before floor = list_any (λ f. f == floor) (map (λ f. f.0) (floors_of before))

abbrev pub has_node : List SaidPart → NodeName → Bool
has_node before name = list_any (λ n. same_name n.name name) (nodes_of before)

abbrev pub has_arc : List SaidPart → NodeName → NodeName → Bool
has_arc before start finish = list_any (joins (place_of_node (nodes_of before) start) (place_of_node (nodes_of before) finish)) (arcs_of before)

abbrev pub is_coming : ℕ → ℕ → Coming → Bool
is_coming node moment e = e.node == node && e.moment == moment

abbrev pub has_entrant : List SaidPart → NodeName → ℕ → Bool
has_entrant before name moment = list_any (is_coming (place_of_node (nodes_of before) name) moment) (entrants_of before)

-- the windows of the arc between two names
abbrev pub windows_of : List SaidPart → NodeName → NodeName → List ClosureWindow
windows_of before start finish =
    arc_windows (arcs_of before) (place_of_arc (arcs_of before) (place_of_node (nodes_of before) start) (place_of_node (nodes_of before) finish))

-- the people who start somewhere or come in later
abbrev pub people_of : List SaidPart → ℕ
people_of before = sum_by (λ n. n.start) (nodes_of before) + sum_by (λ e. e.people) (entrants_of before)

-- the code of the first check that holds
abbrev pub first_code : List (Bool × Code) → Option Code
first_code [] = None
first_code (c ∷ cs) = if c.0 then Some c.1 else first_code cs

-- the checks of a part against those before it, in their order, each with its code
abbrev pub part_checks : List SaidPart → SaidPart → List (Bool × Code)
part_checks before (Title text) = (is_some (title_of before), RepeatedSetting) ∷ []
part_checks before (Period seconds) = (is_some (seconds_of before), RepeatedSetting) ∷ []
part_checks before (Horizon moments) = (is_some (horizon_of before), RepeatedSetting) ∷ []
part_checks before (Floor floor text) =
    (has_floor before floor, RepeatedSetting) ∷ (nat_le floor_limit (length (floors_of before)), TooMany) ∷ []
part_checks before (Node name capacity start) =
    (not (has_floor before name.floor), UnknownFloor) ∷ (has_node before name, RepeatedNode) ∷ (nat_lt capacity start, OverFull)
    ∷ (nat_le node_limit (length (nodes_of before)) || nat_lt people_limit (people_of before + start), TooMany) ∷ []
part_checks before (Exit name) =
    (not (has_floor before name.floor), UnknownFloor) ∷ (has_node before name, RepeatedNode)
    ∷ (nat_le node_limit (length (nodes_of before)), TooMany) ∷ []
part_checks before (Arc start finish travel rate) =
    (not (has_node before start), UnknownNode) ∷ (not (has_node before finish), UnknownNode) ∷ (same_name start finish, SameNode)
    ∷ (is_exit start.kind, FromExit) ∷ (has_arc before start finish, RepeatedArc)
    ∷ (nat_le arc_limit (length (arcs_of before)), TooMany) ∷ []
part_checks before (Window start finish first until) =
    (not (has_node before start), UnknownNode) ∷ (not (has_node before finish), UnknownNode)
    ∷ (not (has_arc before start finish), NoArc) ∷ (nat_le until first, BadWindow)
    ∷ (list_any (λ v. overlaps v (window_of first until)) (windows_of before start finish), WindowOverlap)
    ∷ (nat_le window_limit (length (windows_of before start finish)), TooManyWindows) ∷ []
part_checks before (Entrant name moment people) =
    (not (has_node before name), UnknownNode) ∷ (is_exit name.kind, ExitNamed) ∷ (has_entrant before name moment, RepeatedEntrant)
    ∷ (nat_lt people_limit (people_of before + people), TooMany) ∷ []

-- the fault of a part, said of those before it
unfoldable pub part_fault : List SaidPart → SaidPart → Option Code
part_fault before part = first_code (part_checks before part)

-- the cells of what is described: each node and each arc at each moment
abbrev pub cells_of : List SaidPart → ℕ
cells_of taken = (length (nodes_of taken) + length (arcs_of taken)) * (unwrap_or (horizon_of taken) 0 + 1)

-- the fault of the model's end
unfoldable pub end_fault : List SaidPart → Option Code
end_fault taken =
    first_code ((is_none (seconds_of taken) || is_none (horizon_of taken), MissingSetting)
    ∷ (not (list_any (λ n. is_exit n.name.kind) (nodes_of taken)), NoExit)
    ∷ (nat_lt cell_limit (cells_of taken), TooLarge)
    ∷ (list_any (λ e. nat_lt (unwrap_or (horizon_of taken) 0) e.moment) (entrants_of taken), EntrantLate) ∷ [])

-- ---- the building that they describe

-- a model, the title where one was given, and the floors with their texts
pub record Description : Type 0 where
  pub model : Model
  pub title : Option (List ℕ)
  pub floors : List (ℕ × List ℕ)

unfoldable pub model_taken : List SaidPart → Model
model_taken taken =
    record {
      seconds = unwrap_or (seconds_of taken) 0;
      horizon = unwrap_or (horizon_of taken) 0;
      nodes = nodes_of taken;
      arcs = arcs_of taken;
      entrants = entrants_of taken;
    }

abbrev pub description_of : List SaidPart → Description
description_of taken = record { model = model_taken taken; title = title_of taken; floors = floors_of taken }

-- parts that lines may say, each without a fault when it came
abbrev pub AreTaken : List SaidPart → Type 0
AreTaken [] = Unit {0}
AreTaken (part ∷ before) = IsSaidPart part × (part_fault before part ≡ None) × AreTaken before
