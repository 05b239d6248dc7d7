-- The block that lines state, or the first line that no block has there.
use Rattle.std.specs.Prelude.{◌≡◌, ℕ, ◌+◌, Bool, true, false, List, [], ◌∷◌, ◌++◌, length, map, Ok, Err, Some}
use Rattle.std.specs.declared.option.Option.{Option}
use Rattle.std.specs.List.{filter}
use Rattle.evac_law.specs.declared.code.Code.TheVariants.{BadBlock}
use Rattle.evac_law.specs.declared.code.Code.{Code}
use Rattle.evac_law.specs.declared.model.Model.{Model}
use Rattle.line_io.specs.Line.{Line, text_lines}
use Rattle.certificate_text.specs.declared.block.Block.{Block}
use Rattle.certificate_text.specs.declared.entry.Entry.{Entry}
use Rattle.certificate_text.specs.declared.entry.Entry.TheVariants.{Blank}
use Rattle.certificate_text.specs.Block.{HasAllLabels, IsBlockOf}
use Rattle.certificate_text.specs.BlockEntries.{entries_of}
use Rattle.certificate_text.specs.Entries.{entry_of}

-- whether a line says anything: a blank one doesn't, and None is said by a line that no block has anywhere
abbrev pub says_something : Option Entry → Bool
says_something (Some Blank) = false
says_something _ = true

-- what lines say, one by one, blank ones left out
unfoldable pub said_by : List (List ℕ) → List (Option Entry)
said_by texts = filter says_something (map entry_of texts)

-- entries as they are said
abbrev pub as_said : List Entry → List (Option Entry)
as_said entries = map (λ entry. Some entry) entries

-- lines say the entries of a block of the model's that has all its labels, up to those that are left
pub record Says (m : Model) (texts : List (List ℕ)) (b : Block) (left : List Entry) : Type 0 where
  pub is_block : IsBlockOf m b
  pub all_labels : HasAllLabels b
  pub entries : as_said (entries_of m b) ≡ said_by texts ++ as_said left

-- lines begin a block of the model's, and some of its entries are left
pub record Begins (m : Model) (texts : List (List ℕ)) : Type 0 where
  pub block : Block
  pub next : Entry
  pub left : List Entry
  pub says : Says m texts block (next ∷ left)

-- the first of the lines after others is refused by a code: with it they begin no block of the model's, or it has a fault of its own, or there is none
abbrev pub Refuses : Model → List (List ℕ) → List Line → Code → Type 0
Refuses m texts [] code = code ≡ BadBlock
Refuses m texts (Err fault ∷ lines) code = code ≡ fault
Refuses m texts (Ok text ∷ lines) code = (code ≡ BadBlock) × ((b : Block) (left : List Entry) → ¬ Says m (texts ++ (text ∷ [])) b left)

-- lines state a block and end it at the line `last`, with `rest` following it; or they are refused, by a code and at a line
pub data BlockReading : Type 0 where
  Stated : (block : Block) → (last : ℕ) → (rest : List Line) → BlockReading
  Refused : (code : Code) → (line : ℕ) → BlockReading

-- how lines after those of `texts` end the block by their first, which has this number
abbrev pub EndsBlock : Model → List (List ℕ) → List Line → ℕ → BlockReading → Type 0
EndsBlock m texts lines number (Stated block last rest) = (last ≡ number) × ((text : List ℕ) × (lines ≡ Ok text ∷ rest) × Says m (texts ++ (text ∷ [])) block [])
EndsBlock m texts lines number (Refused code line) = (line ≡ number) × Refuses m texts lines code

-- what lines are read as, after `before` other lines: while they begin a block of the model's they go on, and the next line ends it or is refused
pub record ReadsAs (m : Model) (before : ℕ) (lines : List Line) (reading : BlockReading) : Type 0 where
  pub texts : List (List ℕ)
  pub behind : List Line
  pub parts : lines ≡ text_lines texts ++ behind
  pub begins : Begins m texts
  pub ends : EndsBlock m texts behind (before + length texts + 1) reading
