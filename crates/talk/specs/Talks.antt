-- A talk over lines: how it opens, what each line gets, and how it ends.
use Rattle.std.specs.Prelude.{◌≡◌, ℕ, ◌+◌, ◌≤◌, List, [], ◌∷◌, ◌++◌, length, Ok, Err, ◌⊎◌}
use Rattle.evac_law.specs.declared.code.Code.{Code}
use Rattle.line_io.specs.Line.{Line, text_lines}
use Rattle.certificate_text.specs.BlockText.{refusal_line}

-- what a line gets: a text, the state after it, and the steps that it takes
pub record Reply (S : Type 0) : Type 0 where
  pub text : List ℕ
  pub after : S
  pub steps : ℕ

-- a text, with everything as it was
abbrev pub says : {S : Type 0} → S → List ℕ → Reply S
says s text = record { text = text; after = s; steps = 0 }

-- a refusal by its code, at a line
abbrev pub refuses : {S : Type 0} → S → Code → ℕ → Reply S
refuses s code line = says s (refusal_line code line)

-- a reply, and the replies after it
abbrev pub followed : {S : Type 0} → Reply S → Reply S → Reply S
followed r more = record { text = r.text ++ more.text; after = more.after; steps = r.steps + more.steps }

-- what a line may get, by its number, the state before it and its text
abbrev pub Replying : Type 0 → Type 1
Replying S = ℕ → S → List ℕ → Reply S → Type 0

-- what some lines get, after `before` others, one after another
unfoldable pub RepliesTo : {S : Type 0} → Replying S → ℕ → S → List (List ℕ) → Reply S → Type 0
RepliesTo Gets before s [] r = r ≡ says s []
RepliesTo Gets before s (line ∷ lines) r =
    (first : Reply _) × Gets (before + 1) s line first
    × ((more : Reply _) × RepliesTo Gets (before + 1) first.after lines more × (r ≡ followed first more))

-- what a talk came to: its status, the text that it wrote, and the steps that it counted
pub record Spoken : Type 0 where
  pub status : ℕ
  pub text : List ℕ
  pub steps : ℕ

-- which lines may want memory, by a line's number, the state before it and its text
abbrev pub Wanting : Type 0 → Type 1
Wanting S = ℕ → S → List ℕ → Type 0

-- no line wants memory
abbrev pub WantsNone : {S : Type 0} → Wanting S
WantsNone line s text = ⊥

-- a talk: how it opens, or is refused at a line, what a line gets, which line ends it, and which lines may want memory
pub record Talk (S : Type 0) : Type 1 where
  pub Opens : Reply S → Type 0
  pub Refuses : ℕ → Spoken → Type 0
  pub Gets : Replying S
  pub Quits : List ℕ → Type 0
  pub Wants : Wanting S

-- the opening of a talk after so many lines, and what the next lines get: none of them ends the talk
pub record TalkGoes {S : Type 0} (talk : Talk S) (before : ℕ) (lines : List (List ℕ)) (r : Reply S) : Type 0 where
  pub opening : Reply S
  pub more : Reply S
  pub opens : talk.Opens opening
  pub replies : RepliesTo talk.Gets before opening.after lines more
  pub all : r ≡ followed opening more

-- it is over with a status, after some replies
abbrev pub over_with : {S : Type 0} → ℕ → Reply S → Spoken
over_with status r = record { status = status; text = r.text; steps = r.steps }

-- how a talk ends after some replies, by the lines that are left: with the input, with a line that quits, or with a line that has a fault
abbrev pub EndsAt : {S : Type 0} → Talk S → ℕ → List Line → Reply S → Spoken → Type 0
EndsAt talk before [] r x = x ≡ over_with 0 r
EndsAt talk before (Ok line ∷ rest) r x = talk.Quits line × (x ≡ over_with 0 r)
EndsAt talk before (Err code ∷ rest) r x = x ≡ record { status = 1; text = r.text ++ refusal_line code (before + 1); steps = r.steps }

-- a talk over lines: some are answered, and the rest ends it
pub record TalkRun {S : Type 0} (talk : Talk S) (before : ℕ) (lines : List Line) (x : Spoken) : Type 0 where
  pub answered : List (List ℕ)
  pub rest : List Line
  pub replies : Reply S
  pub parts : lines ≡ text_lines answered ++ rest
  pub goes : TalkGoes talk before answered replies
  pub ends : EndsAt talk (before + length answered) rest replies x

-- a talk opens and goes over the lines after it, or is refused at the line before them
abbrev pub TalkAnswers : {S : Type 0} → Talk S → ℕ → List Line → Spoken → Type 0
TalkAnswers talk before lines x = TalkRun talk before lines x ⊎ talk.Refuses before x

-- a talk over just these lines: all are answered, and it goes on
pub record TalkGoesOn {S : Type 0} (talk : Talk S) (before : ℕ) (lines : List (List ℕ)) (x : Spoken) : Type 0 where
  pub replies : Reply S
  pub goes : TalkGoes talk before lines replies
  pub text_said : x.text ≡ replies.text
  pub counted : x.steps ≡ replies.steps

-- a talk over these lines, the last of which wanted memory that wasn't there: all before it are answered, and it may want memory in the state
-- after them. Some steps may have been taken for it
pub record TalkWants {S : Type 0} (talk : Talk S) (before : ℕ) (lines : List (List ℕ)) (x : Spoken) : Type 0 where
  pub answered : List (List ℕ)
  pub line : List ℕ
  pub parts : lines ≡ answered ++ (line ∷ [])
  pub replies : Reply S
  pub goes : TalkGoes talk before answered replies
  pub text_said : x.text ≡ replies.text
  pub counted : replies.steps ≤ x.steps
  pub wants : talk.Wants (before + length answered + 1) replies.after line

-- a talk over the first of some lines
pub record TalkGoesWithin {S : Type 0} (talk : Talk S) (before : ℕ) (lines : List Line) (x : Spoken) : Type 0 where
  pub answered : List (List ℕ)
  pub rest : List Line
  pub parts : lines ≡ text_lines answered ++ rest
  pub goes : TalkGoesOn talk before answered x

-- what was written is the front of a text of this kind
abbrev pub IsTalkFront : (Spoken → Type 0) → Spoken → Type 0
IsTalkFront Holds x = (status : ℕ) × (rest : List ℕ) × Holds (record { status = status; text = x.text ++ rest; steps = x.steps })

-- the front of a talk, up to its end or over the first of the lines
abbrev pub TalkFront : {S : Type 0} → Talk S → ℕ → List Line → Spoken → Type 0
TalkFront talk before lines x = IsTalkFront (TalkAnswers talk before lines) x ⊎ IsTalkFront (TalkGoesWithin talk before lines) x
