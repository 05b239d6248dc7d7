-- What the parts of a run read.
use Rattle.std.specs.Prelude.{◌≡◌, ℕ, ◌+◌, ◌≤◌, true, false, List, [], ◌++◌, length, Result, Ok, Err, OnOk, Some, None, ⊤}
use Rattle.std.specs.declared.option.Option.{Option}
use Rattle.std.specs.Io.KnownBytes.{Consumes, IsAtEnd}
use Rattle.evac_law.specs.declared.code.Code.TheVariants.{LineTooLong, InputTooLong, TextAfterEnd, BadBlock}
use Rattle.line_io.specs.Line.{Line, input_limit, lines_of, text_lines, whole_part}
use Rattle.line_io.specs.declared.limits.TheConstants.{BUFFER_SIZE}
use Rattle.line_io.specs.View.{Reader}
use Rattle.building_table.specs.Built.{IsBuilding}
use Rattle.line_io.specs.Passes.{Passes}
use Rattle.building_table.specs.declared.faults.ModelFault.{ModelFault}
use Rattle.building_table.specs.declared.faults.ModelFault.TheVariants.{Named, ReadFault, Memory}
use Rattle.block_reader.specs.declared.fault.BlockFault.{BlockFault}
use Rattle.block_reader.specs.declared.fault.BlockFault.TheVariants as block_faults
use Rattle.evac_top.specs.declared.claim.Claim.{Claim}
use Rattle.evac_top.specs.declared.read.Input.{Input}
use Rattle.line_io.specs.declared.hearing.Ending.{Ending}
use Rattle.line_io.specs.declared.hearing.Ending.TheVariants as endings
use Rattle.line_io.specs.declared.hearing.Heard.{Heard}
use Rattle.line_io.specs.declared.hearing.Heard.TheVariants.{More, Last}
use Rattle.line_io.specs.declared.lines.LineFault.TheVariants as line_faults
use Rattle.model_text.specs.declared.fault.TextFault.{TextFault}
use Rattle.model_text.specs.Grammar.{Said}
use Rattle.evac_top.specs.declared.read.TextFound.{TextFound}
use Rattle.evac_top.specs.Inputs.{Asked, Claimed, IsClaimOf, input_of, says_nothing, tail_fault}

-- the first fault after a model's end, by the lines left before the call
abbrev pub TailIs : Result (Unit {0}) ModelFault → ℕ → List Line → Type 0
TailIs (Ok done) first before = tail_fault first before ≡ None
TailIs (Err (Named code line)) first before = tail_fault first before ≡ Some (code, line)
TailIs (Err ReadFault) first before = ⊤
TailIs (Err Memory) first before = ⊤

-- the same, where the source tells its bytes
abbrev pub ReadsTail : Result (Unit {0}) ModelFault → ℕ → Option (List Line) → Type 0
ReadsTail result first None = ⊤
ReadsTail result first (Some before) = TailIs result first before

-- what the lines after a model's end are heard as
abbrev pub HearsTail : Result Said TextFault → Result Heard TextFound → Type 0
HearsTail said (Ok More) = says_nothing said ≡ true
HearsTail said (Ok Last) = ⊥
HearsTail said (Err found) = says_nothing said ≡ false

-- the answer where so many lines went by
abbrev pub tail_by : Ending TextFound → ℕ → Result (Unit {0}) ModelFault
tail_by endings.InputEnded number = Ok tt
tail_by endings.Finished number = Err (Named TextAfterEnd number)
tail_by (endings.Failed found) number = Err (Named TextAfterEnd number)
tail_by (endings.Fault line_faults.LineTooLong) number = Err (Named LineTooLong (number + 1))
tail_by (endings.Fault line_faults.InputTooLong) number = Err (Named InputTooLong (number + 1))
tail_by (endings.Fault line_faults.ReadFault) number = Err ReadFault

-- a reader went on by some lines after a model's end; where the source failed, they say nothing
pub record PassesTail (result : Result (Unit {0}) ModelFault) (before after : Reader) (left left' : Option (List ℕ)) : Type 0 where
  pub texts : List (List ℕ)
  pub passes : Passes before after left left' texts
  pub nothing : result ≡ Err ReadFault → (rest : List Line) → tail_fault before.number (text_lines texts ++ rest) ≡ tail_fault after.number rest

-- what was taken of an input: no more than the limit and one buffer, and all of it where it is read; where the source failed, no whole line
-- of it ended the run
pub record Takes {T : Type 0} (IsOpen : List Line → Type 0) (result : Result T ModelFault) (left left' : Option (List ℕ)) : Type 0 where
  pub taken : List ℕ
  pub consumed : Consumes left left' taken
  pub few : length taken ≤ input_limit + BUFFER_SIZE
  pub all : OnOk result (IsAtEnd left')
  pub open_lines : result ≡ Err ReadFault → IsOpen (lines_of (whole_part taken))

-- what an input says, by its bytes
abbrev pub InputIs : Result Input ModelFault → List ℕ → Type 0
InputIs (Ok input) bytes = (asked : Asked) × (input_of (lines_of bytes) ≡ Ok asked) × IsBuilding input.building asked.building × (input.last ≡ asked.last)
InputIs (Err (Named code line)) bytes = input_of (lines_of bytes) ≡ Err (code, line)
InputIs (Err ReadFault) bytes = ⊤
InputIs (Err Memory) bytes = ⊤

-- the fault of an input with a block that isn't read
abbrev pub block_fault : BlockFault → ModelFault
block_fault (block_faults.Bad line) = Named BadBlock line
block_fault (block_faults.LineTooLong line) = Named LineTooLong line
block_fault (block_faults.InputTooLong line) = Named InputTooLong line
block_fault block_faults.ReadFault = ReadFault
block_fault block_faults.Memory = Memory

-- what an input with a block says, by its bytes
abbrev pub ClaimIs : Result Claim ModelFault → List ℕ → Type 0
ClaimIs (Ok claim) bytes = (c : Claimed) × IsClaimOf (lines_of bytes) (Ok c) × IsBuilding claim.building c.building × (c.block ≡ claim.block)
ClaimIs (Err (Named code line)) bytes = IsClaimOf (lines_of bytes) (Err (code, line))
ClaimIs (Err ReadFault) bytes = ⊤
ClaimIs (Err Memory) bytes = ⊤

-- a reader that has taken nothing yet
abbrev pub IsFresh : Reader → Type 0
IsFresh r = r ≡ record { pending = []; ended = false; given = 0; number = 0; text = [] }
