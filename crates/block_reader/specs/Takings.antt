-- What the parts of a block's reader answer.
use Rattle.std.specs.Prelude.{◌≡◌, ℕ, ◌+◌, true, false, List, Result, Ok, Err, Some, None, ⊤}
use Rattle.std.specs.declared.option.Option.{Option}
use Rattle.evac_law.specs.declared.model.Model.{Model}
use Rattle.line_io.specs.Hearing.{Hearing}
use Rattle.line_io.specs.declared.hearing.Ending.{Ending}
use Rattle.line_io.specs.declared.hearing.Ending.TheVariants as endings
use Rattle.line_io.specs.declared.hearing.Heard.{Heard}
use Rattle.line_io.specs.declared.hearing.Heard.TheVariants.{More, Last}
use Rattle.line_io.specs.declared.lines.LineFault.TheVariants as line_faults
use Rattle.evac_law.specs.Building.{IsValid}
use Rattle.building_table.specs.Names.{NamesFit}
use Rattle.model_text.specs.NameFields.{◌>>=◌}
use Rattle.block_reader.specs.declared.read.BlockReader.{BlockReader}
use Rattle.block_reader.specs.DraftFacts.{IsDraft}
use Rattle.certificate_text.specs.declared.block.Block.{Block}
use Rattle.certificate_text.specs.declared.entry.Entry.{Entry}
use Rattle.block_reader.specs.declared.fault.BlockFault.{BlockFault}
use Rattle.block_reader.specs.declared.fault.BlockFault.TheVariants as faults
use Rattle.block_reader.specs.declared.fault.TakeFault.{TakeFault}
use Rattle.block_reader.specs.declared.fault.TakeFault.TheVariants.{Bad, Memory}
use Rattle.block_reader.specs.Drafts.{Draft, IsStated, with_entry}
use Rattle.certificate_text.specs.Entries.{entry_of, is_end}

-- a block took one line more, or it is refused
abbrev pub TakesLine : Result (Unit {0}) TakeFault → Option Draft → Draft → Type 0
TakesLine (Ok done) next new = next ≡ Some new
TakesLine (Err Bad) next new = next ≡ None
TakesLine (Err Memory) next new = ⊤

-- a block heard a line: what it says may stand there, as the end or not, or it is refused
abbrev pub HearsDraft : Model → List ℕ → Result Heard TakeFault → Draft → Draft → Type 0
HearsDraft m text (Ok More) old new = (e : Entry) × (entry_of text ≡ Some e) × (is_end e ≡ false) × (with_entry m old e ≡ Some new)
HearsDraft m text (Ok Last) old new = (e : Entry) × (entry_of text ≡ Some e) × (is_end e ≡ true) × (with_entry m old e ≡ Some new)
HearsDraft m text (Err Bad) old new = (entry_of text >>= with_entry m old) ≡ None
HearsDraft m text (Err Memory) old new = ⊤

-- ---- a reader that hears lines

-- it can hear a line
pub record CanHear (r : BlockReader) : Type 0 where
  pub valid : IsValid r.model.now
  pub names : NamesFit r.names.now r.model.now
  pub draft : IsDraft r.model.now r.builder

-- what it answers to a line
abbrev pub HearsBlock : Hearing BlockReader TakeFault
HearsBlock r line text result new = (new.model.now ≡ r.model.now) × HearsDraft r.model.now text result r.builder new.builder

-- the answer of a block that heard all, or whose lines ended before that, where so many went by
abbrev pub ConcludesBlock : Model → Ending TakeFault → Draft → ℕ → Result Block BlockFault → Type 0
ConcludesBlock m endings.Finished d number (Ok block) = IsStated m d block
ConcludesBlock m endings.Finished d number (Err fault) = fault ≡ faults.Memory
ConcludesBlock m (endings.Failed Bad) d number result = result ≡ Err (faults.Bad number)
ConcludesBlock m (endings.Failed Memory) d number result = result ≡ Err faults.Memory
ConcludesBlock m endings.InputEnded d number result = result ≡ Err (faults.Bad (number + 1))
ConcludesBlock m (endings.Fault line_faults.LineTooLong) d number result = result ≡ Err (faults.LineTooLong (number + 1))
ConcludesBlock m (endings.Fault line_faults.InputTooLong) d number result = result ≡ Err (faults.InputTooLong (number + 1))
ConcludesBlock m (endings.Fault line_faults.ReadFault) d number result = result ≡ Err faults.ReadFault
