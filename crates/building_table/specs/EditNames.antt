-- The places and the edits that commands name.
use Rattle.std.specs.Prelude.{ℕ, Result, Ok, Err, Some, None}
use Rattle.std.specs.declared.option.Option.{Option}
use Rattle.evac_law.specs.declared.edit.Edit.{Edit}
use Rattle.evac_law.specs.declared.edit.Edit.TheVariants as edits
use Rattle.evac_law.specs.declared.name.NodeName.{NodeName}
use Rattle.building_table.specs.declared.faults.NameFault.{NameFault}
use Rattle.building_table.specs.declared.faults.NameFault.TheVariants.{UnknownNode, NoArc}
use Rattle.building_table.specs.Names.{NameTable, node_place, arc_place}
use Rattle.model_text.specs.declared.named_edit.NamedEdit.{NamedEdit}
use Rattle.model_text.specs.declared.named_edit.NamedEdit.TheVariants.{Shut, Reopen, ShutExit, ReopenExit, Rate, Room, Shift, Enter, Leave, Window, Unwindow}

-- the first fault, or what follows from the value
infixl 10 ◌>>=◌
abbrev pub ◌>>=◌ : {A B : Type 0} → Result A NameFault → (A → Result B NameFault) → Result B NameFault
(Ok x) >>= f = f x
(Err e) >>= f = Err e

-- a place, or a fault where there is none
abbrev pub or_fault : NameFault → Option ℕ → Result ℕ NameFault
or_fault fault (Some place) = Ok place
or_fault fault None = Err fault

-- the place of a node, of two nodes, and of the arc between two nodes
abbrev pub named_node : NameTable → NodeName → Result ℕ NameFault
named_node names name = or_fault UnknownNode (node_place names name)

abbrev pub named_nodes : NameTable → NodeName → NodeName → Result (ℕ × ℕ) NameFault
named_nodes names start finish = named_node names start >>= λ a. named_node names finish >>= λ b. Ok (a, b)

abbrev pub named_arc : NameTable → NodeName → NodeName → Result ℕ NameFault
named_arc names start finish = named_nodes names start finish >>= λ n. or_fault NoArc (arc_place names n.0 n.1)

-- the edit at the places of its names, or the first name that has no place
unfoldable pub edit_named : NameTable → NamedEdit → Result Edit NameFault
edit_named names (Shut start finish) = named_arc names start finish >>= λ a. Ok (edits.Shut a)
edit_named names (Reopen start finish) = named_arc names start finish >>= λ a. Ok (edits.Reopen a)
edit_named names (ShutExit node) = named_node names node >>= λ n. Ok (edits.ShutExit n)
edit_named names (ReopenExit node) = named_node names node >>= λ n. Ok (edits.ReopenExit n)
edit_named names (Rate start finish rate) = named_arc names start finish >>= λ a. Ok (edits.Rate a rate)
edit_named names (Room node capacity) = named_node names node >>= λ n. Ok (edits.Room n capacity)
edit_named names (Shift start finish people) = named_nodes names start finish >>= λ n. Ok (edits.Shift n.0 n.1 people)
edit_named names (Enter node people) = named_node names node >>= λ n. Ok (edits.Enter n people)
edit_named names (Leave node people) = named_node names node >>= λ n. Ok (edits.Leave n people)
edit_named names (Window start finish first until) = named_arc names start finish >>= λ a. Ok (edits.Window a first until)
edit_named names (Unwindow start finish first until) = named_arc names start finish >>= λ a. Ok (edits.Unwindow a first until)
