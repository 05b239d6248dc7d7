-- The text of a building describes it again.
use Rattle.std.specs.Prelude.{◌≡◌, ℕ, ◌≤◌, List, [], ◌∷◌, ◌++◌, ◌+◌, length, map, Ok, None, ⊤}
use Rattle.std.specs.List.{All, flat_map}
use Rattle.line_io.specs.Line.{Line, input_limit, line_limit, lines_of, text_lines}
use Rattle.model_text.specs.Fields.{text_of}
use Rattle.model_text.specs.Grammar.{Said, SaidPart, IsSaidPart, Blank, Header, Part, Title, Floor, End, statement_of}
use Rattle.building_table.specs.Built.{IsBuilding}
use Rattle.building_table.specs.declared.building.Building.{Building}
use Rattle.model_text.specs.Plain.{IsContentWithin}
use Rattle.model_text.specs.Readings.{Described, model_of}
use Rattle.model_text.specs.Taken.{Description, description_of, end_fault, part_fault}
use Rattle.model_writer.specs.ModelText.{building_text, ended, model_text, said_line, said_of}

-- bytes that may be a line's content
abbrev pub IsContent : List ℕ → Type 0
IsContent x = IsContentWithin line_limit (Ok x)

-- the lines of contents with their ends are these contents
abbrev pub LinesReadBack : Type 0
LinesReadBack =
    (xs : List (List ℕ)) → All IsContent xs → length (flat_map ended xs) ≤ input_limit → lines_of (flat_map ended xs) ≡ text_lines xs

-- a text has no blank in front or at its end
abbrev pub IsText : List ℕ → Type 0
IsText text = text_of text ≡ text

-- a part that a line may say, with such a text where it has one
abbrev pub IsSpelledPart : SaidPart → Type 0
IsSpelledPart (Title text) = IsSaidPart (Title text) × IsText text
IsSpelledPart (Floor floor text) = IsSaidPart (Floor floor text) × IsText text
IsSpelledPart part = IsSaidPart part

-- the same of a statement
abbrev pub IsSpelled : Said → Type 0
IsSpelled Blank = ⊥
IsSpelled (Header version) = version ≤ 2
IsSpelled (Part part) = IsSpelledPart part
IsSpelled End = ⊤

-- a statement's line says it
abbrev pub StatementsReadBack : Type 0
StatementsReadBack = (s : Said) → IsSpelled s → statement_of (said_line s) ≡ Ok s

-- parts and those that follow them, the last one first
abbrev pub pushed : List SaidPart → List SaidPart → List SaidPart
pushed taken [] = taken
pushed taken (p ∷ ps) = pushed (p ∷ taken) ps

-- parts that are spelled, each without a fault after those before it
abbrev pub AreFine : List SaidPart → List SaidPart → Type 0
AreFine taken [] = ⊤
AreFine taken (p ∷ ps) = IsSpelledPart p × (part_fault taken p ≡ None) × AreFine (p ∷ taken) ps

-- the lines of a header of version 2, of such parts and of an end describe the building of the parts
abbrev pub FinePartsReadBack : Type 0
FinePartsReadBack =
    (ps : List SaidPart) → AreFine [] ps → end_fault (pushed [] ps) ≡ None
    → model_of (text_lines (map said_line (Header 2 ∷ (map Part ps ++ (End ∷ []))))) ≡ Described (description_of (pushed [] ps)) (length ps + 2) []

-- what is written of a building is the text of its description
abbrev pub TextIsOfDescription : Type 0
TextIsOfDescription = (b : Building) (d : Description) → IsBuilding b d → building_text b ≡ model_text d

-- the text keeps the limits on a line and on an input, and its lines describe the same model, title and floors again
pub record DescribesAgain (d : Description) : Type 0 where
  pub lines_fit : All (λ s. length (said_line s) ≤ line_limit) (said_of d)
  pub fits : length (model_text d) ≤ input_limit
  pub again : model_of (lines_of (model_text d)) ≡ Described d (length (said_of d)) []

-- the text of each building that the lines of an input describe
abbrev pub TextsDescribeAgain : Type 0
TextsDescribeAgain =
    (bytes : List ℕ) (d : Description) (last : ℕ) (rest : List Line) → model_of (lines_of bytes) ≡ Described d last rest → DescribesAgain d
