-- What the parts of a model's reader answer.
use Rattle.std.specs.Prelude.{◌≡◌, ℕ, ◌+◌, List, [], ◌++◌, Result, Ok, Err, Some, None, ⊤}
use Rattle.std.specs.declared.option.Option.{Option}
use Rattle.evac_law.specs.declared.code.Code.{Code}
use Rattle.evac_law.specs.declared.code.Code.TheVariants.{LineTooLong, InputTooLong, MissingEnd}
use Rattle.line_io.specs.Hearing.{Hearing}
use Rattle.line_io.specs.Line.{text_lines}
use Rattle.line_io.specs.Passes.{IsLeft}
use Rattle.line_io.specs.Reader.{pending_lines}
use Rattle.line_io.specs.declared.hearing.Ending.{Ending}
use Rattle.line_io.specs.declared.hearing.Ending.TheVariants as endings
use Rattle.line_io.specs.declared.hearing.Heard.{Heard}
use Rattle.line_io.specs.declared.hearing.Heard.TheVariants.{More, Last}
use Rattle.line_io.specs.declared.hearing.Refusal.{Refusal}
use Rattle.line_io.specs.declared.hearing.Refusal.TheVariants as refusals
use Rattle.line_io.specs.declared.lines.LineFault.TheVariants as line_faults
use Rattle.line_io.specs.View.{Reader}
use Rattle.building_table.specs.declared.building.Building.{Building}
use Rattle.building_table.specs.declared.faults.ModelFault.{ModelFault}
use Rattle.building_table.specs.declared.faults.ModelFault.TheVariants.{Named, ReadFault, Memory}
use Rattle.building_table.specs.Built.{Built, IsBuilding, built_of}
use Rattle.building_table.specs.declared.read.ModelReader.{ModelReader}
use Rattle.model_text.specs.Grammar.{SaidPart}
use Rattle.model_text.specs.Readings.{Line, Described, Refused, ReadingState, AtStart, InModel, Step, Moved, Stopped, end_step, step_at, opening_of}
use Rattle.model_text.specs.Taken.{Description, description_of, end_fault, AreTaken}

-- a builder with the parts after the header of a version heard a line that takes a step
abbrev pub TakesStep : Result Heard Refusal → Step → ℕ → List SaidPart → Built → Type 0
TakesStep (Ok More) step version taken new = (next : List SaidPart) × (step ≡ Moved (InModel version next)) × AreTaken next × (new ≡ built_of next)
TakesStep (Ok Last) step version taken new = (step ≡ end_step taken) × (new ≡ built_of taken)
TakesStep (Err (refusals.Code code)) step version taken new = step ≡ Stopped code
TakesStep (Err refusals.Memory) step version taken new = ⊤

-- a line before the parts that takes a step: a version is that of the header
abbrev pub HearsFirst : Result (Option ℕ) Refusal → Step → Type 0
HearsFirst (Ok None) step = step ≡ Moved AtStart
HearsFirst (Ok (Some version)) step = step ≡ Moved (InModel version [])
HearsFirst (Err (refusals.Code code)) step = step ≡ Stopped code
HearsFirst (Err refusals.Memory) step = ⊥

-- ---- a reader that hears lines

-- a reader is in a state
abbrev pub IsInState : ModelReader → ReadingState → Type 0
IsInState r AtStart = (r.version ≡ None) × (r.builder ≡ built_of [])
IsInState r (InModel version taken) = (r.version ≡ Some version) × AreTaken taken × (r.builder ≡ built_of taken)

-- what a reader answers to a line that takes a step
abbrev pub HearsStep : Result Heard Refusal → Step → ModelReader → Type 0
HearsStep (Ok More) step new = (state : ReadingState) × (step ≡ Moved state) × IsInState new state
HearsStep (Ok Last) step new = (taken : List SaidPart) × (step ≡ end_step taken) × AreTaken taken × (new.builder ≡ built_of taken)
HearsStep (Err (refusals.Code code)) step new = step ≡ Stopped code
HearsStep (Err refusals.Memory) step new = ⊤

abbrev pub HearsModel : Hearing ModelReader Refusal
HearsModel r line text result new = (state : ReadingState) → IsInState r state → HearsStep result (step_at state (Ok text)) new

-- the building of the parts, or the fault of their end; memory may be wanting where there is none
abbrev pub Finishes : Result Building ModelFault → List SaidPart → ℕ → Type 0
Finishes (Ok building) taken line = (end_fault taken ≡ None) × IsBuilding building (description_of taken)
Finishes (Err (Named code number)) taken line = (end_fault taken ≡ Some code) × (number ≡ line)
Finishes (Err ReadFault) taken line = ⊥
Finishes (Err Memory) taken line = ⊤

-- the first fault of the lines that went by: with those that are left, and with those of the bytes that are pending
pub record RefusesAt (first : ℕ) (code : Code) (line : ℕ) (r : Reader) (before after : Option (List Line)) (texts : List (List ℕ)) : Type 0 where
  pub rest : List Line
  pub left_is : IsLeft before after rest
  pub left : opening_of first (text_lines texts ++ rest) ≡ Refused code line
  pub pending : opening_of first (text_lines texts ++ pending_lines r) ≡ Refused code line

-- the lines are those of this building, whatever follows them
abbrev pub IsDescribedBy : ℕ → ℕ → Building → List (List ℕ) → Type 0
IsDescribedBy first last building texts =
    (d : Description) × (IsBuilding building d × ((rest : List Line) → opening_of first (text_lines texts ++ rest) ≡ Described d last rest))

-- the answer of a call, for the lines that went by and those that are left
abbrev pub AnswersBy : ℕ → Result Building ModelFault → Reader → Option (List Line) → Option (List Line) → List (List ℕ) → Type 0
AnswersBy first (Ok building) r before after texts = IsDescribedBy first r.number building texts
AnswersBy first (Err (Named code line)) r before after texts = RefusesAt first code line r before after texts
AnswersBy first (Err ReadFault) r before after texts = opening_of first (text_lines texts) ≡ Refused MissingEnd (r.number + 1)
AnswersBy first (Err Memory) r before after texts = ⊤

-- the answer of a reader that heard all, or whose lines ended before that, where so many went by
abbrev pub ConcludesModel : Ending Refusal → ModelReader → ℕ → Result Building ModelFault → Type 0
ConcludesModel endings.Finished reader number result = (taken : List SaidPart) → AreTaken taken → reader.builder ≡ built_of taken → Finishes result taken number
ConcludesModel (endings.Failed (refusals.Code code)) reader number result = result ≡ Err (Named code number)
ConcludesModel (endings.Failed refusals.Memory) reader number result = result ≡ Err Memory
ConcludesModel endings.InputEnded reader number result = result ≡ Err (Named MissingEnd (number + 1))
ConcludesModel (endings.Fault line_faults.LineTooLong) reader number result = result ≡ Err (Named LineTooLong (number + 1))
ConcludesModel (endings.Fault line_faults.InputTooLong) reader number result = result ≡ Err (Named InputTooLong (number + 1))
ConcludesModel (endings.Fault line_faults.ReadFault) reader number result = result ≡ Err ReadFault
