-- An answer block that was written is read back, and lines are read in one way.
use Rattle.std.specs.Prelude.{◌≡◌, ℕ, ◌+◌, ◌≤◌, List, ◌++◌, length, Result, Ok, Err, Some, ⊤}
use Rattle.std.specs.declared.option.Option.{Option}
use Rattle.evac_law.specs.declared.model.Model.{Model}
use Rattle.evac_law.specs.declared.plan.Move.{Move}
use Rattle.evac_law.specs.Building.{IsValid}
use Rattle.evac_law.specs.Certificates.{IsCertified}
use Rattle.evac_law.specs.LabelTable.{LabelTable}
use Rattle.evac_law.specs.Stands.{IsOrdered}
use Rattle.line_io.specs.Line.{Line, input_limit, lines_after, pieces}
use Rattle.certificate_text.specs.declared.block.Block.{Block}
use Rattle.certificate_text.specs.Block.{HasAllLabels, IsBlockOf, number_field_limit}
use Rattle.certificate_text.specs.BlockEntries.{entries_of}
use Rattle.certificate_text.specs.BlockLaws.{IsAnswerBlock, block_limit}
use Rattle.certificate_text.specs.BlockReadings.{BlockReading, ReadsAs}
use Rattle.certificate_text.specs.BlockText.{answer_text}
use Rattle.block_reader.specs.declared.fault.BlockFault.{BlockFault}
use Rattle.block_reader.specs.declared.fault.BlockFault.TheVariants.{ReadFault, Memory}

-- what a call of `read_block` makes of such a text, with lines following it: that answer, and just these lines are left
abbrev pub IsBack : ℕ → Model → List Move → LabelTable → ℕ → Result Block BlockFault → Option (List Line) → List Line → Type 0
IsBack index m p l c (Ok block) left behind = IsAnswerBlock index m p l c block × (left ≡ Some behind)
IsBack index m p l c (Err ReadFault) left behind = ⊤
IsBack index m p l c (Err Memory) left behind = ⊤
IsBack index m p l c (Err fault) left behind = ⊥

-- a call of `read_block` reads the text of each answer back that begins what is left of an input
abbrev pub GivesBack : Model → Result Block BlockFault → Option (List Line) → Option (List Line) → Type 0
GivesBack m result before after =
    (index : ℕ) (p : List Move) (l : LabelTable) (c given : ℕ) (behind : List Line) → index ≤ number_field_limit → IsCertified m p l c → IsOrdered (length m.arcs) m.horizon p
    → given + block_limit ≤ input_limit → before ≡ Some (lines_after given (pieces (answer_text index m p l c)) ++ behind) → IsBack index m p l c result after behind

-- no two blocks of a model that have all their labels have the same entries
abbrev pub EntriesTellBlock : Type 0
EntriesTellBlock = (m : Model) (b other : Block) → IsValid m → IsBlockOf m b → HasAllLabels b → IsBlockOf m other → HasAllLabels other → entries_of m b ≡ entries_of m other → b ≡ other

-- lines are read in one way
abbrev pub ReadsOneWay : Type 0
ReadsOneWay = (m : Model) (before : ℕ) (lines : List Line) (x y : BlockReading) → IsValid m → ReadsAs m before lines x → ReadsAs m before lines y → x ≡ y
