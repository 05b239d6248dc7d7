-- What who answers shows, and what it does at a line.
use Rattle.std.specs.Prelude.{◌≡◌, ℕ, ◌+◌, ◌≤◌, List, [], Result, Ok, Err}
use Rattle.std.specs.declared.option.Option.{Option}
use Rattle.evac_law.specs.declared.model.Model.{Model}
use Rattle.line_io.specs.Causes.{Count, Rose}
use Rattle.line_io.specs.Writer.{Puts, PutsFront, Writes}
use Rattle.line_io.specs.declared.hearing.Heard.{Heard}
use Rattle.line_io.specs.declared.hearing.Heard.TheVariants.{More, Last}
use Rattle.line_io.specs.declared.outside.Sink.{Ghosts}
use Rattle.line_io.specs.declared.writer.Writer.{Writer}
use Rattle.edit_session.specs.Sessions.{BeginEnds}
use Rattle.edit_session.specs.declared.faults.BeginFault.{BeginFault}
use Rattle.talk.specs.Talks.{Reply, Talk}
use Rattle.talk.specs.declared.fault.AnswerFault.{AnswerFault}
use Rattle.talk.specs.declared.fault.AnswerFault.TheVariants.{Write, Memory}

-- what is shown: what no line changes, where the talk is, what the sink holds and what is pending, how often the sink failed, and the steps
-- counted
pub record Shown (N S : Type 0) : Type 0 where
  pub kept : N
  pub state : S
  pub held : Option (List ℕ)
  pub pending : List ℕ
  pub faults : Count
  pub steps : ℕ

abbrev pub shown : {N S : Type 0} → N → S → Option (List ℕ) → List ℕ → Count → ℕ → Shown N S
shown kept state held pending faults steps =
    record { kept = kept; state = state; held = held; pending = pending; faults = faults; steps = steps }

-- the same of a sink with the bytes that are pending before it
abbrev pub shown_on : {N S X : Type 0} → Ghosts X → N → S → X → List ℕ → ℕ → Shown N S
shown_on g kept state sink pending steps = shown kept state (g.held sink) pending (g.faults sink) steps

-- a reply was said, whole
pub record Says {N S : Type 0} (s : Shown N S) (r : Reply S) (s' : Shown N S) : Type 0 where
  pub state : s'.state ≡ r.after
  pub put : Puts s.held s.pending r.text s'.held s'.pending
  pub faults : s'.faults ≡ s.faults
  pub steps : s'.steps ≡ s.steps + r.steps

-- a front of a reply was said, since the sink failed
pub record SaysFront {N S : Type 0} (s : Shown N S) (r : Reply S) (s' : Shown N S) : Type 0 where
  pub put : PutsFront s.held s.pending r.text s'.held s'.pending
  pub rose : Rose s.faults s'.faults
  pub steps : s'.steps ≡ s.steps + r.steps

-- nothing was said; some steps may have been taken
pub record SaysNothing {N S : Type 0} (s s' : Shown N S) : Type 0 where
  pub held : s'.held ≡ s.held
  pub pending : s'.pending ≡ s.pending
  pub faults : s'.faults ≡ s.faults
  pub steps : s.steps ≤ s'.steps

-- where who answers is: what no line changes, the state of the talk, what was written, and the steps counted
pub record Speaking (N S X : Type 0) : Type 0 where
  pub kept : N
  pub state : S
  pub writer : Writer X
  pub steps : ℕ

abbrev pub speaking : {N S X : Type 0} → N → S → Writer X → ℕ → Speaking N S X
speaking kept state writer steps = record { kept = kept; state = state; writer = writer; steps = steps }

-- a writer keeps its buffer and its sink
abbrev pub KeepsSink : {X : Type 0} → Writer X → Writer X → Type 0
KeepsSink w w' = (w'.out.ghost_name ≡ w.out.ghost_name) × (w'.sink.ghost_name ≡ w.sink.ghost_name)

-- a reply was put
pub record PutsReply {N S X : Type 0} (g : Ghosts X) (s : Speaking N S X) (r : Reply S) (s' : Speaking N S X) : Type 0 where
  pub kept : s'.kept ≡ s.kept
  pub state : s'.state ≡ r.after
  pub put : Writes g s.writer r.text s'.writer
  pub steps : s'.steps ≡ s.steps + r.steps

-- nothing was put; some steps may have been taken
pub record PutsNothing {N S X : Type 0} (s s' : Speaking N S X) : Type 0 where
  pub kept : s'.kept ≡ s.kept
  pub writer : s'.writer ≡ s.writer
  pub steps : s.steps ≤ s'.steps

-- one of these replies was put
abbrev pub PutsSome : {N S X : Type 0} → Ghosts X → (Reply S → Type 0) → Speaking N S X → Speaking N S X → Type 0
PutsSome g Gets s s' = (r : Reply _) × Gets r × PutsReply g s r s'

-- how a line of a talk is answered: a reply is put, and the talk can be where it is then after the line; or the line quits; or nothing is put, since
-- the line wanted memory that wasn't there
abbrev pub AnswersLine : {N S X E : Type 0} → Ghosts X → Talk S → (ℕ → N → S → Type 0) → Speaking N S X → ℕ → List ℕ → Result Heard E → Speaking N S X → Type 0
AnswersLine g talk Reaches s line text (Ok More) s' =
    (r : Reply _) × talk.Gets line s.state text r × PutsReply g s r s' × Reaches line s'.kept s'.state
AnswersLine g talk Reaches s line text (Ok Last) s' = talk.Quits text × (s' ≡ s)
AnswersLine g talk Reaches s line text (Err fault) s' = talk.Wants line s.state text × PutsNothing s s'

-- how it is heard: a reply is said, and nothing is left pending; or the line quits; or a front of a reply is said, since the sink failed; or
-- nothing is said, since the line wanted memory that wasn't there
abbrev pub HearsText : {N S : Type 0} → Talk S → (ℕ → N → S → Type 0) → Shown N S → ℕ → List ℕ → Result Heard AnswerFault → Shown N S → Type 0
HearsText talk Reaches s line text (Ok More) s' =
    (r : Reply _) × talk.Gets line s.state text r × Says s r s' × Reaches line s'.kept s'.state × (s'.pending ≡ [])
HearsText talk Reaches s line text (Ok Last) s' = talk.Quits text × (s' ≡ s)
HearsText talk Reaches s line text (Err (Write fault)) s' = (r : Reply _) × talk.Gets line s.state text r × SaysFront s r s'
HearsText talk Reaches s line text (Err Memory) s' = talk.Wants line s.state text × SaysNothing s s'

-- the same, where the talk can be where it is after the lines before
abbrev pub HearsLine : {N S : Type 0} → Talk S → (ℕ → N → S → Type 0) → Shown N S → ℕ → List ℕ → Result Heard AnswerFault → Shown N S → Type 0
HearsLine talk Reaches s line text result s' = (before : ℕ) → line ≡ before + 1 → Reaches before s.kept s.state → HearsText talk Reaches s line text result s'

-- the reply that opens a talk
abbrev pub opened : {S : Type 0} → List ℕ → S → ℕ → Reply S
opened text state steps = record { text = text; after = state; steps = steps }

-- a talk on a model begins, by the text that opens it and where it is then; or there is none
abbrev pub TalkBegins : {T S : Type 0} → (T → List ℕ) → (T → S) → Talk S → Model → Result T BeginFault → ℕ → Type 0
TalkBegins opening state talk m (Ok t) steps = talk.Opens (opened (opening t) (state t) steps)
TalkBegins opening state talk m (Err fault) steps = BeginEnds m (Err fault) steps
