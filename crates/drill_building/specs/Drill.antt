-- The building of a drill: a tower with a number of storeys, each with two rooms, a hall and a stairwell, above a lobby with two exits.
use Rattle.std.specs.Prelude.{ℕ, ◌+◌, ◌-◌, ◌*◌, ◌%◌, ◌==◌, if◌then◌else◌, List, [], ◌∷◌, ◌++◌, map, codes, None}
use Rattle.std.specs.List.{flat_map, range_with_len}
use Rattle.evac_law.specs.declared.model.ArcRow.{ArcRow}
use Rattle.evac_law.specs.declared.model.Model.{Model}
use Rattle.evac_law.specs.declared.model.NodeRow.{NodeRow}
use Rattle.evac_law.specs.declared.name.Kind.{Kind}
use Rattle.evac_law.specs.declared.name.Kind.TheVariants.{Exit, Hall, Lobby, Stair, Work}
use Rattle.evac_law.specs.declared.name.NodeName.{NodeName}
use Rattle.evac_law.specs.Building.{arc_row, node_row}
use Rattle.evac_law.specs.Sums.{below}
use Rattle.model_text.specs.Taken.{Description}

-- the name of a node
abbrev pub node_name : Kind → ℕ → ℕ → NodeName
node_name kind number floor = record { kind = kind; number = number; floor = floor }

-- the storeys 1 to n
abbrev pub storeys : ℕ → List ℕ
storeys n = range_with_len 1 n

-- ---- nodes

-- the people of room w of a storey: from 10 to 20
abbrev pub room_start : ℕ → ℕ → ℕ
room_start f w = 10 + ((7 * f + 3 * w) % 11)

-- the lobby and the two exits
abbrev pub ground_nodes : List NodeRow
ground_nodes = node_row (node_name Lobby 1 0) 40 0 ∷ node_row (node_name Exit 1 0) 0 0 ∷ node_row (node_name Exit 2 0) 0 0 ∷ []

-- a storey's two rooms, its hall and its stairwell
abbrev pub storey_nodes : ℕ → List NodeRow
storey_nodes f =
    node_row (node_name Work 1 f) 40 (room_start f 1) ∷ node_row (node_name Work 2 f) 40 (room_start f 2)
    ∷ node_row (node_name Hall 1 f) 30 0 ∷ node_row (node_name Stair 1 f) 12 0 ∷ []

unfoldable pub drill_nodes : ℕ → List NodeRow
drill_nodes n = ground_nodes ++ flat_map storey_nodes (storeys n)

-- ---- arcs

-- the places of a storey's nodes: three nodes stand before the first storey, and four belong to each
abbrev pub room_place : ℕ → ℕ → ℕ
room_place f w = 4 * f + w - 2

abbrev pub hall_place : ℕ → ℕ
hall_place f = 4 * f + 1

-- below the stairwell of the first storey is the lobby
abbrev pub stair_place : ℕ → ℕ
stair_place f = if f == 0 then 0 else 4 * f + 2

-- from the lobby to the exits
abbrev pub ground_arcs : List ArcRow
ground_arcs = arc_row 0 1 1 3 ∷ arc_row 0 2 2 2 ∷ []

-- from a storey's rooms to its hall, from there to its stairwell, and down
abbrev pub storey_arcs : ℕ → List ArcRow
storey_arcs f =
    arc_row (room_place f 1) (hall_place f) 1 6 ∷ arc_row (room_place f 2) (hall_place f) 1 6 ∷ arc_row (hall_place f) (stair_place f) 1 4
    ∷ arc_row (stair_place f) (stair_place (f - 1)) 2 4 ∷ []

unfoldable pub drill_arcs : ℕ → List ArcRow
drill_arcs n = ground_arcs ++ flat_map storey_arcs (storeys n)

-- ---- the building

-- the model of a number of storeys
abbrev pub drill_model : ℕ → Model
drill_model n = record { seconds = 5; horizon = 600; nodes = drill_nodes n; arcs = drill_arcs n; entrants = [] }

-- the building with its floors 0 to n and no title
abbrev pub drill_building : ℕ → Description
drill_building n = record { model = drill_model n; title = None; floors = map (λ f. (f, codes "storey")) (below (n + 1)) }
