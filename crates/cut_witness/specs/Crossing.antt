-- What is left of the items of a cut.
use Rattle.std.specs.Prelude.{◌≡◌, ℕ, ◌+◌, ◌-◌, ◌≤◌, List, ◌++◌, length}
use Rattle.evac_law.specs.declared.model.Model.{Model}
use Rattle.evac_law.specs.declared.cut.CutItem.{CutItem}
use Rattle.evac_law.specs.LabelTable.{LabelTable}
use Rattle.evac_law.specs.Building.{IsValid}
use Rattle.evac_law.specs.Certificates.{IsTableOf}
use Rattle.evac_law.specs.Cuts.{Cut, entry_part, hold_part, arc_part, hold_items, arc_items}
use Rattle.cut_witness.specs.declared.position.Part.{Part}
use Rattle.cut_witness.specs.declared.position.Part.TheVariants.{Entries, Holds, Arcs}
use Rattle.cut_witness.specs.declared.position.Position.{Position}
use Rattle.cut_witness.specs.Walk.{rest_of_rows, steps_left}

-- the items that are left of a part from a row and a column on, and of the parts after it
abbrev pub rest_in : Model → Cut → ℕ → Part → ℕ → ℕ → List CutItem
rest_in m x k Entries i j = rest_of_rows (entry_part m x) (k + 1) i j (length m.nodes - i) ++ (hold_items m x k ++ arc_items m x k)
rest_in m x k Holds i j = rest_of_rows (hold_part m x) k i j (length m.nodes - i) ++ arc_items m x k
rest_in m x k Arcs i j = rest_of_rows (arc_part m x k) (length m.arcs) i j (k + 1 - i)

-- the items that are left at a position
unfoldable pub rest_at : Model → Cut → ℕ → Position → List CutItem
rest_at m x k p = rest_in m x k p.part p.row p.column

-- how many rows a part has, and how many columns
abbrev pub rows_of : Model → ℕ → Part → ℕ
rows_of m k Entries = length m.nodes
rows_of m k Holds = length m.nodes
rows_of m k Arcs = k + 1

abbrev pub width_of : Model → ℕ → Part → ℕ
width_of m k Entries = k + 1
width_of m k Holds = k
width_of m k Arcs = length m.arcs

-- the position is one of the walk: after the last row there is column 0 alone
pub record IsPosition (m : Model) (k : ℕ) (p : Position) : Type 0 where
  pub row_in : p.row ≤ rows_of m k p.part
  pub column_in : p.column ≤ width_of m k p.part
  pub end_first : p.row ≡ rows_of m k p.part → p.column ≡ 0

-- how many steps the walk can still make
abbrev pub left_in : Model → ℕ → Part → ℕ → ℕ → ℕ
left_in m k Entries i j = steps_left (length m.nodes) (k + 1) i j + (steps_left (length m.nodes) k 0 0 + (steps_left (k + 1) (length m.arcs) 0 0 + 2))
left_in m k Holds i j = steps_left (length m.nodes) k i j + (steps_left (k + 1) (length m.arcs) 0 0 + 1)
left_in m k Arcs i j = steps_left (k + 1) (length m.arcs) i j

unfoldable pub left_at : Model → ℕ → Position → ℕ
left_at m k p = left_in m k p.part p.row p.column

-- what a part has at a place
abbrev pub part_at : Model → Cut → ℕ → Part → ℕ → ℕ → List CutItem
part_at m x k Entries i j = entry_part m x i j
part_at m x k Holds i j = hold_part m x i j
part_at m x k Arcs i j = arc_part m x k i j

-- the part after a part
abbrev pub next_part : Part → Part
next_part Entries = Holds
next_part Holds = Arcs
next_part Arcs = Arcs

-- what a walk rests on: a valid model, labels for it, a moment up to its horizon, and a position
pub record IsCrossing (m : Model) (l : LabelTable) (k : ℕ) (p : Position) : Type 0 where
  pub valid : IsValid m
  pub table : IsTableOf m l
  pub k_in : k ≤ m.horizon
  pub position : IsPosition m k p
