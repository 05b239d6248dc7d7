-- The laws of names and of described buildings.
use Rattle.std.specs.Prelude.{◌≡◌, ℕ, List, Some}
use Rattle.std.specs.List.{All}
use Rattle.evac_law.specs.Building.{IsValid}
use Rattle.evac_law.specs.Names.{IsName, name_text}
use Rattle.evac_law.specs.declared.name.NodeName.{NodeName}
use Rattle.model_text.specs.NameFields.{name_of}
use Rattle.model_text.specs.Plain.{IsContentWithin, IsPlain}
use Rattle.model_text.specs.Readings.{Line, Described, model_of}
use Rattle.model_text.specs.Taken.{Description}

-- a field reads as a name exactly where it is the text of that name
pub record NameReadsBack (field : List ℕ) (name : NodeName) : Type 0 where
  pub text_reads : IsName name → field ≡ name_text name → name_of field ≡ Some name
  pub reads_as_name : name_of field ≡ Some name → IsName name
  pub reads_as_text : name_of field ≡ Some name → field ≡ name_text name

abbrev pub NamesReadBack : Type 0
NamesReadBack = (field : List ℕ) (name : NodeName) → NameReadsBack field name

-- the model that lines describe is valid
abbrev pub DescribedIsValid : Type 0
DescribedIsValid = (lines : List Line) (building : Description) (last : ℕ) (rest : List Line) → model_of lines ≡ Described building last rest → IsValid building.model

-- the building that lines describe is plain
abbrev pub DescribedIsPlain : Type 0
DescribedIsPlain =
    (limit : ℕ) (lines : List Line) (building : Description) (last : ℕ) (rest : List Line) → All (IsContentWithin limit) lines
    → model_of lines ≡ Described building last rest → IsPlain limit building
