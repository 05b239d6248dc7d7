-- The names of a building as callers see them, and a building that a description describes.
use Rattle.std.specs.Prelude.{◌≡◌, ◌≢◌, ℕ, ◌<◌, ◌==◌, ◌&&◌, if◌then◌else◌, List, [], ◌∷◌, ◌++◌, length, map, position, slice_index_or}
use Rattle.std.specs.List.{list_any}
use Rattle.std.specs.declared.option.Option.{Option}
use Rattle.evac_law.specs.Building.{no_node, no_arc}
use Rattle.evac_law.specs.declared.model.ArcRow.{ArcRow}
use Rattle.evac_law.specs.declared.model.Model.{Model}
use Rattle.evac_law.specs.declared.model.NodeRow.{NodeRow}
use Rattle.evac_law.specs.declared.name.NodeName.{NodeName}
use Rattle.model_text.specs.Taken.{Description, same_name}

-- the names of the nodes, the ends of the arcs by the places of their nodes, the floors' numbers and their texts, and the title
pub record NameTable : Type 0 where
  pub nodes : List NodeName
  pub ends : List (ℕ × ℕ)
  pub floors : List ℕ
  pub texts : List (List ℕ)
  pub title : Option (List ℕ)

-- the names of some nodes and the ends of some arcs, each in their order
pub record NameLists : Type 0 where
  pub nodes : List NodeName
  pub ends : List (ℕ × ℕ)

-- with a name, or a pair of ends, after the others where it is new
abbrev pub names_with : List NodeName → NodeName → List NodeName
names_with names name = if list_any (λ n. same_name n name) names then names else names ++ (name ∷ [])

abbrev pub ends_with : List (ℕ × ℕ) → ℕ × ℕ → List (ℕ × ℕ)
ends_with ends new = if list_any (λ e. e.0 == new.0 && e.1 == new.1) ends then ends else ends ++ (new ∷ [])

-- the names of a model's nodes, and the ends of its arcs
abbrev pub node_names : Model → List NodeName
node_names m = map (λ n. n.name) m.nodes

abbrev pub arc_ends : Model → List (ℕ × ℕ)
arc_ends m = map (λ a. (a.from, a.to)) m.arcs

-- the names that a description gives
abbrev pub names_of : Description → NameTable
names_of d =
    record { nodes = node_names d.model; ends = arc_ends d.model; floors = map (λ f. f.0) d.floors; texts = map (λ f. f.1) d.floors; title = d.title }

-- no two of these nodes have one name, and no two of these arcs the same ends
abbrev pub NamesDiffer : List NodeRow → Type 0
NamesDiffer rows = (i j : ℕ) → i < j → j < length rows → (slice_index_or rows i no_node).name ≢ (slice_index_or rows j no_node).name

abbrev pub EndsDiffer : List ArcRow → Type 0
EndsDiffer rows =
    (i j : ℕ) → i < j → j < length rows → (slice_index_or rows i no_arc).from ≡ (slice_index_or rows j no_arc).from
    → (slice_index_or rows i no_arc).to ≢ (slice_index_or rows j no_arc).to

-- these names are those of this model
pub record NamesFit (names : NameTable) (m : Model) : Type 0 where
  pub nodes : names.nodes ≡ node_names m
  pub ends : names.ends ≡ arc_ends m

-- the place of a node's name, and of an arc by the places of its ends
abbrev pub node_place : NameTable → NodeName → Option ℕ
node_place names name = position (λ n. same_name n name) names.nodes

abbrev pub arc_place : NameTable → ℕ → ℕ → Option ℕ
arc_place names start finish = position (λ e. e.0 == start && e.1 == finish) names.ends
