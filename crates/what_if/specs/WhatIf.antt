-- What is answered of a building and one of its exits.
use Rattle.std.specs.Prelude.{◌≡◌, ℕ, ◌≤◌, List, Result, Ok, Err, ⊤}
use Rattle.evac_law.specs.declared.edit.Edit.{Edit}
use Rattle.evac_law.specs.declared.model.Model.{Model}
use Rattle.evac_law.specs.declared.name.NodeName.{NodeName}
use Rattle.evac_law.specs.declared.plan.Move.{Move}
use Rattle.evac_law.specs.Building.{people}
use Rattle.evac_law.specs.Certificates.{IsCertified}
use Rattle.evac_law.specs.Edits.{applied}
use Rattle.evac_law.specs.LabelTable.{LabelTable}
use Rattle.evac_law.specs.Plans.{IsFeasible, out_by}
use Rattle.line_io.specs.Line.{Line, lines_of}
use Rattle.model_text.specs.declared.named_edit.NamedEdit.TheVariants.{ShutExit}
use Rattle.model_text.specs.Readings.{Described, Refused, model_of}
use Rattle.model_text.specs.Taken.{Description}
use Rattle.building_table.specs.declared.building.Building.{Building}
use Rattle.building_table.specs.Built.{IsBuilding}
use Rattle.building_table.specs.EditNames.{edit_named}
use Rattle.building_table.specs.Names.{NameTable, names_of}
use Rattle.edit_session.specs.Sessions.{IsNotCleared}
use Rattle.what_if.specs.declared.answer.Answer.{Answer}
use Rattle.what_if.specs.declared.answer.Answer.TheVariants.{Cleared, NotCleared}
use Rattle.what_if.specs.declared.answer.WhatIfFault.{WhatIfFault}
use Rattle.what_if.specs.declared.answer.WhatIfFault.TheVariants as faults

-- a building clears at moment c: a certified plan has everybody out by then, and no feasible plan has everybody out sooner
pub record ClearsAt (m : Model) (c : ℕ) : Type 0 where
  pub plan : List Move
  pub labels : LabelTable
  pub certified : IsCertified m plan labels c
  pub soonest : (other : List Move) (k : ℕ) → IsFeasible m other k → out_by m other k ≡ people m → c ≤ k

-- a building is another one with the exit of a name shut
pub record IsWithShut (m : Model) (names : NameTable) (exit : NodeName) (m' : Model) : Type 0 where
  pub edit : Edit
  pub inverse : Edit
  pub named : edit_named names (ShutExit exit) ≡ Ok edit
  pub accepted : applied m edit ≡ Ok (m', inverse)

-- what is answered of a building, case by case
abbrev pub AnswersOn : Model → NameTable → NodeName → Result Answer WhatIfFault → Type 0
AnswersOn m names exit (Ok (Cleared before after)) = ClearsAt m before × ((m' : Model) × IsWithShut m names exit m' × ClearsAt m' after)
AnswersOn m names exit (Ok (NotCleared before all most)) =
    ClearsAt m before × ((m' : Model) × (l : LabelTable) × IsWithShut m names exit m' × IsNotCleared m' l all most)
AnswersOn m names exit (Err (faults.NeverCleared most)) = (l : LabelTable) × IsNotCleared m l (people m) most
AnswersOn m names exit (Err (faults.Name fault)) = edit_named names (ShutExit exit) ≡ Err fault
AnswersOn m names exit (Err (faults.Edit fault)) = (e : Edit) × (edit_named names (ShutExit exit) ≡ Ok e) × (applied m e ≡ Err fault)
AnswersOn m names exit (Err (faults.Text code line)) = ⊥
AnswersOn m names exit (Err faults.Memory) = ⊤

-- a building is the one that a text describes up to its `end`; or the first fault of the text is named
abbrev pub Describes : List ℕ → Result Building WhatIfFault → Type 0
Describes text (Ok building) = (d : Description) × (last : ℕ) × (rest : List Line) × (model_of (lines_of text) ≡ Described d last rest) × IsBuilding building d
Describes text (Err (faults.Text code line)) = model_of (lines_of text) ≡ Refused code line
Describes text (Err faults.Memory) = ⊤
Describes text (Err fault) = ⊥

-- a text describes a building up to its `end`, and this is answered of it
pub record AnswersText (text : List ℕ) (exit : NodeName) (result : Result Answer WhatIfFault) : Type 0 where
  pub building : Description
  pub last : ℕ
  pub rest : List Line
  pub described : model_of (lines_of text) ≡ Described building last rest
  pub answer : AnswersOn building.model (names_of building) exit result

-- what is answered of a text: its first fault, or what is answered of its building
abbrev pub AnswersWhatIf : List ℕ → NodeName → Result Answer WhatIfFault → Type 0
AnswersWhatIf text exit (Err (faults.Text code line)) = model_of (lines_of text) ≡ Refused code line
AnswersWhatIf text exit (Err faults.Memory) = ⊤
AnswersWhatIf text exit result = AnswersText text exit result
