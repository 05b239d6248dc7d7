-- What reading a block answers.
use Rattle.std.specs.Prelude.{◌≡◌, ℕ, ◌+◌, List, [], Result, Ok, Err, Some, None, IfOk, ⊤}
use Rattle.std.specs.declared.option.Option.{Option}
use Rattle.evac_law.specs.declared.code.Code.{Code}
use Rattle.evac_law.specs.declared.code.Code.TheVariants as codes
use Rattle.evac_law.specs.declared.model.Model.{Model}
use Rattle.line_io.specs.Line.{Line, text_lines}
use Rattle.line_io.specs.Reader.{taken_lines}
use Rattle.line_io.specs.View.{Reader}
use Rattle.line_io.specs.Passes.{Passes}
use Rattle.certificate_text.specs.declared.block.Block.{Block}
use Rattle.block_reader.specs.declared.fault.BlockFault.{BlockFault}
use Rattle.block_reader.specs.declared.fault.BlockFault.TheVariants.{Bad, LineTooLong, InputTooLong, ReadFault, Memory}
use Rattle.certificate_text.specs.BlockReadings.{ReadsAs, Refused, Stated}

-- the block or the first fault of the lines left before, after `first` lines; `last` is the line of the block's end, with `after` following it
abbrev pub IsBlockReading : Model → Result Block BlockFault → ℕ → ℕ → List Line → List Line → Type 0
IsBlockReading m (Ok block) first last before after = ReadsAs m first before (Stated block last after)
IsBlockReading m (Err (Bad line)) first last before after = ReadsAs m first before (Refused codes.BadBlock line)
IsBlockReading m (Err (LineTooLong line)) first last before after = ReadsAs m first before (Refused codes.LineTooLong line)
IsBlockReading m (Err (InputTooLong line)) first last before after = ReadsAs m first before (Refused codes.InputTooLong line)
IsBlockReading m (Err ReadFault) first last before after = ⊤
IsBlockReading m (Err Memory) first last before after = ⊤

-- the same, where the source tells its bytes
abbrev pub ReadsBlock : Model → Result Block BlockFault → ℕ → ℕ → Option (List Line) → Option (List Line) → Type 0
ReadsBlock m result first last None after = ⊤
ReadsBlock m result first last (Some before) None = ⊥
ReadsBlock m result first last (Some before) (Some after) = IsBlockReading m result first last before after

-- the fault of a line of the input, by its code and its line
abbrev pub IsFault : BlockFault → Code → ℕ → Type 0
IsFault (Bad line) code number = (code ≡ codes.BadBlock) × (line ≡ number)
IsFault (LineTooLong line) code number = (code ≡ codes.LineTooLong) × (line ≡ number)
IsFault (InputTooLong line) code number = (code ≡ codes.InputTooLong) × (line ≡ number)
IsFault ReadFault code number = ⊥
IsFault Memory code number = ⊥

-- a call of `read_block` went on by some lines: those of the block that it answers; where the source failed, they end before the block does and none is refused
pub record ReadsBlockLines (m : Model) (result : Result Block BlockFault) (before after : Reader) (left left' : Option (List ℕ)) : Type 0 where
  pub texts : List (List ℕ)
  pub passes : Passes before after left left' texts
  pub undecided : result ≡ Err ReadFault → ReadsAs m before.number (text_lines texts) (Refused codes.BadBlock (after.number + 1))
  -- a fault is that of the lines of the bytes taken
  pub refused : (fault : BlockFault) (code : Code) (line : ℕ) → result ≡ Err fault → IsFault fault code line → ReadsAs m before.number (taken_lines before passes.taken) (Refused code line)
  pub stated : IfOk result (λ block. ReadsAs m before.number (text_lines texts) (Stated block after.number []))
