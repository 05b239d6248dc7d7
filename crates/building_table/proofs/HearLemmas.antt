-- What a reader of a model hears moves it on.
use Rattle.std.proofs.Common.{◌≡◌, ℕ, List, [], Result, Ok, Err, None, Some, sym, subst, ◌∙◌}
use Rattle.std.specs.declared.option.Option.{Option}
use Rattle.line_io.specs.declared.hearing.Heard.{Heard}
use Rattle.line_io.specs.declared.hearing.Heard.TheVariants.{More, Last}
use Rattle.line_io.specs.declared.hearing.Refusal.{Refusal}
use Rattle.line_io.specs.declared.hearing.Refusal.TheVariants as refusals
use Rattle.building_table.specs.declared.read.ModelReader.{ModelReader}
use Rattle.building_table.specs.Built.{built_of}
use Rattle.building_table.specs.Reads.{TakesStep, HearsFirst, HearsModel, HearsStep}
use Rattle.model_text.specs.Grammar.{SaidPart}
use Rattle.model_text.specs.Readings.{AtStart, InModel, Step, content_step}
use Rattle.model_text.specs.Taken.{AreTaken}

-- ---- a reader of a model

later-at : (result : Result Heard Refusal) (step : Step) (version : ℕ) (taken : List SaidPart) (new : ModelReader) → AreTaken taken → new.version ≡ Some version → TakesStep result step version taken new.builder
    → HearsStep result step new
later-at (Ok More) step version taken new are still h = (InModel version h.0, h.1, (still, h.2, h.3))
later-at (Ok Last) step version taken new are still h = (taken, h.0, are, h.1)
later-at (Err (refusals.Code code)) step version taken new are still h = h
later-at (Err refusals.Memory) step version taken new are still h = tt

-- a line after the header of a version
pub hears-later : (result : Result Heard Refusal) (version : ℕ) (r new : ModelReader) (text : List ℕ) (line : ℕ) → r.version ≡ Some version → new.version ≡ Some version
    → ((taken : List SaidPart) → AreTaken taken → r.builder ≡ built_of taken → TakesStep result (content_step (InModel version taken) text) version taken new.builder) → HearsModel r line text result new
hears-later result version r new text line first still heard AtStart is = let no : Some version ≡ None = sym first ∙ is.0 in cc
hears-later result version r new text line first still heard (InModel v taken) is =
    let same : version ≡ v = let e : Some version ≡ Some v = sym first ∙ is.0 in cc in
    subst (λ (n : ℕ). HearsStep result (content_step (InModel n taken) text) new) same
    (later-at result (content_step (InModel version taken) text) version taken new is.1 still (heard taken is.1 is.2))

first-at : (o : Option ℕ) (step : Step) (new : ModelReader) → new.version ≡ o → new.builder ≡ built_of [] → HearsFirst (Ok o) step → HearsStep (Ok More) step new
first-at (Some version) step new first built h = (InModel version [], h, (first, tt, built))
first-at None step new first built h = (AtStart, h, (first, built))

-- a line that is the first or stands after blank lines
pub hears-first : (o : Option ℕ) (r new : ModelReader) (text : List ℕ) (line : ℕ) → r.version ≡ None → new.version ≡ o → new.builder ≡ r.builder → HearsFirst (Ok o) (content_step AtStart text)
    → HearsModel r line text (Ok More) new
hears-first o r new text line shut first same h AtStart is = first-at o (content_step AtStart text) new first (same ∙ is.1) h
hears-first o r new text line shut first same h (InModel version taken) is = let no : None ≡ Some version = sym shut ∙ is.0 in cc
