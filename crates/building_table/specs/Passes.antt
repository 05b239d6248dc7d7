-- What reading a model answers.
use Rattle.std.specs.Prelude.{◌≡◌, ℕ, ◌+◌, List, [], Result, Ok, Err, Some, None, IfOk, ⊤}
use Rattle.std.specs.declared.option.Option.{Option}
use Rattle.evac_law.specs.declared.code.Code.{Code}
use Rattle.evac_law.specs.declared.code.Code.TheVariants.{MissingEnd}
use Rattle.line_io.specs.Line.{text_lines}
use Rattle.line_io.specs.Passes.{Passes}
use Rattle.line_io.specs.Reader.{taken_lines}
use Rattle.line_io.specs.View.{Reader}
use Rattle.building_table.specs.declared.building.Building.{Building}
use Rattle.building_table.specs.declared.faults.ModelFault.{ModelFault}
use Rattle.building_table.specs.declared.faults.ModelFault.TheVariants.{Named, ReadFault, Memory}
use Rattle.building_table.specs.Built.{IsBuilding}
use Rattle.model_text.specs.Readings.{Line, Described, Refused, opening_of}
use Rattle.model_text.specs.Taken.{Description}

-- a call of `read_model` went on by some lines: those of the building that it answers; where the source failed, they end before the model does and have no fault
pub record ReadsLines (result : Result Building ModelFault) (before after : Reader) (left left' : Option (List ℕ)) : Type 0 where
  pub texts : List (List ℕ)
  pub passes : Passes before after left left' texts
  pub undecided : result ≡ Err ReadFault → opening_of before.number (text_lines texts) ≡ Refused MissingEnd (after.number + 1)
  -- a first fault is that of the lines of the bytes taken
  pub refused : (code : Code) (line : ℕ) → result ≡ Err (Named code line) → opening_of before.number (taken_lines before passes.taken) ≡ Refused code line
  pub described : IfOk result (λ building. (d : Description) × (opening_of before.number (text_lines texts) ≡ Described d after.number []) × IsBuilding building d)

-- the building or the first fault of the lines left before, after `first` lines; `last` is the line of the model's end, with `after` following it
abbrev pub IsReading : Result Building ModelFault → ℕ → ℕ → List Line → List Line → Type 0
IsReading (Ok building) first last before after = (d : Description) × (opening_of first before ≡ Described d last after) × IsBuilding building d
IsReading (Err (Named code line)) first last before after = opening_of first before ≡ Refused code line
IsReading (Err ReadFault) first last before after = ⊤
IsReading (Err Memory) first last before after = ⊤

-- the same, where the source tells its bytes
abbrev pub ReadsModel : Result Building ModelFault → ℕ → ℕ → Option (List Line) → Option (List Line) → Type 0
ReadsModel result first last None after = ⊤
ReadsModel result first last (Some before) None = ⊥
ReadsModel result first last (Some before) (Some after) = IsReading result first last before after
