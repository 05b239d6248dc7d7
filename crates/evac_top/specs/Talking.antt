-- What a run does that holds a talk on its building: in each of these modes a model is read, and each line after it gets a reply.
use Rattle.std.specs.Prelude.{◌≡◌, ℕ, ◌+◌, List, [], ◌∷◌, ◌++◌, Ok, ◌⊎◌}
use Rattle.evac_law.specs.declared.code.Code.TheVariants.{MissingEnd}
use Rattle.evac_law.specs.declared.model.Model.{Model}
use Rattle.line_io.specs.Line.{Line, lines_of, text_lines, whole_part}
use Rattle.model_text.specs.Readings.{Reading, Described, Refused, model_of}
use Rattle.building_table.specs.Names.{NameTable, names_of}
use Rattle.talk.specs.Talks.{Spoken, Talk, TalkAnswers, TalkFront, TalkGoesOn, TalkWants}
use Rattle.evac_top.specs.Accounts.{Account, IsFront, IsRefusal}

-- a talk on a building, by its names and its model
abbrev pub TalkOn : Type 0 → Type 1
TalkOn S = NameTable → Model → Talk S

-- what a run came to as a talk
abbrev pub spoken : Account → Spoken
spoken x = record { status = x.status; text = x.written; steps = x.steps }

-- a building is opened and the lines after it are answered up to the end, or it is refused; a model with a fault is refused by it
abbrev pub Talks : {S : Type 0} → TalkOn S → Reading → Account → Type 0
Talks talk (Described d last rest) x = TalkAnswers (talk (names_of d) d.model) last rest (spoken x)
Talks talk (Refused code line) x = IsRefusal (code, line) x

-- a line after a building quits
abbrev pub HasQuit : {S : Type 0} → TalkOn S → Reading → Type 0
HasQuit talk (Described d last rest) =
    (first : List Line) × (line : List ℕ) × (more : List Line) × (rest ≡ first ++ (Ok line ∷ more)) × (talk (names_of d) d.model).Quits line
HasQuit talk (Refused code line) = ⊥

-- at status 0 all of the input was taken, or a whole line that quits
abbrev pub ReadsOn : {S : Type 0} → TalkOn S → List ℕ → Account → Type 0
ReadsOn talk input x = x.status ≡ 0 → (x.taken ≡ input) ⊎ HasQuit talk (model_of (lines_of (whole_part x.taken)))

-- a talk whose source failed after so many whole lines: each line after its building is answered, and none of them ended it; or its model isn't
-- whole yet, and nothing was written
abbrev pub TalksSoFar : {S : Type 0} → TalkOn S → Reading → ℕ → Account → Type 0
TalksSoFar talk (Described d last rest) count x =
    (answered : List (List ℕ)) × (rest ≡ text_lines answered) × TalkGoesOn (talk (names_of d) d.model) last answered (spoken x)
TalksSoFar talk (Refused code line) count x = (code ≡ MissingEnd) × (line ≡ count + 1) × (x.written ≡ []) × (x.steps ≡ 0)

-- a talk whose sink failed: a front of it, or of the replies to the lines that it came to
abbrev pub TalksFront : {S : Type 0} → TalkOn S → Reading → Account → Type 0
TalksFront talk (Described d last rest) x = TalkFront (talk (names_of d) d.model) last rest (spoken x)
TalksFront talk (Refused code line) x = IsFront (IsRefusal (code, line)) x

-- memory was wanting for a line after a building: the lines before it got their replies, whole
abbrev pub TalksWanting : {S : Type 0} → TalkOn S → Reading → Account → Type 0
TalksWanting talk (Described d last rest) x =
    (heard : List (List ℕ)) × (more : List Line) × (rest ≡ text_lines heard ++ more) × TalkWants (talk (names_of d) d.model) last heard (spoken x)
TalksWanting talk (Refused code line) x = ⊥

-- a talk without memory: nothing was written, or memory was wanting for one of the lines that were taken
abbrev pub TalksMemory : {S : Type 0} → TalkOn S → Account → Type 0
TalksMemory talk x = (x.written ≡ []) ⊎ TalksWanting talk (model_of (lines_of x.taken)) x
