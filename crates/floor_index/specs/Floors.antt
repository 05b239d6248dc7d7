-- The nodes of each floor.
use Rattle.std.specs.Prelude.{◌≡◌, ℕ, Bool, ◌==◌, if◌then◌else◌, List, [], map, position, slice_index_or, Some, None}
use Rattle.std.specs.declared.option.Option.{Option}
use Rattle.std.specs.List.{filter, list_any}
use Rattle.evac_law.specs.declared.model.Model.{Model}
use Rattle.evac_law.specs.Building.{node_at}
use Rattle.evac_law.specs.Sums.{places}

-- floors, with the list of each
pub record FloorTable : Type 0 where
  pub floors : List ℕ
  pub lists : List (List ℕ)

-- whether a node's name has a floor
abbrev pub is_on : Model → ℕ → ℕ → Bool
is_on m floor n = (node_at m n).name.floor == floor

-- the nodes whose name has a floor, in file order
unfoldable pub nodes_on : Model → ℕ → List ℕ
nodes_on m floor = filter (is_on m floor) (places m.nodes)

-- the floors of a list with their nodes
abbrev pub table_of : Model → List ℕ → FloorTable
table_of m floors = record { floors = floors; lists = map (nodes_on m) floors }

-- the list at a place of the floors, or none
abbrev pub list_at : FloorTable → Option ℕ → List ℕ
list_at t (Some place) = slice_index_or t.lists place []
list_at t None = []

-- the list of a floor; none where the floor isn't listed
abbrev pub listed : FloorTable → ℕ → List ℕ
listed t floor = list_at t (position (λ f. f == floor) t.floors)

-- the list of a listed floor is exactly its nodes
abbrev pub ListedAreNodes : Type 0
ListedAreNodes =
    (m : Model) (floors : List ℕ) (floor : ℕ)
    → listed (table_of m floors) floor ≡ (if list_any (λ f. f == floor) floors then nodes_on m floor else [])
