-- What holding a talk over the lines of a source comes to.
use Rattle.std.specs.Prelude.{◌≡◌, ◌≢◌, ℕ, ◌+◌, ◌≤◌, true, false, List, [], ◌∷◌, ◌++◌, Result, Ok, Err, OnOk, None, Some, ⊤, ◌⊎◌}
use Rattle.std.specs.declared.option.Option.{Option}
use Rattle.std.specs.Io.KnownBytes.{Appends}
use Rattle.evac_law.specs.declared.code.Code.TheVariants as codes
use Rattle.line_io.specs.Causes.{Count, HasCause}
use Rattle.line_io.specs.Line.{Line}
use Rattle.line_io.specs.Passes.{Passes}
use Rattle.line_io.specs.Reader.{is_settled, lines_left}
use Rattle.line_io.specs.Sides.{RoseIf, Side, sink_side, source_side}
use Rattle.line_io.specs.View.{Reader}
use Rattle.line_io.specs.Writer.{PutsText}
use Rattle.line_io.specs.declared.hearing.Ending.{Ending}
use Rattle.line_io.specs.declared.hearing.Ending.TheVariants.{Finished, Failed, InputEnded, Fault}
use Rattle.line_io.specs.declared.lines.LineFault.TheVariants.{ReadFault, LineTooLong, InputTooLong}
use Rattle.line_io.specs.declared.out.WriteFault.{WriteFault}
use Rattle.line_io.specs.declared.outside.Sink.{Ghosts as SinkGhosts}
use Rattle.line_io.specs.declared.outside.Source.{Ghosts as SourceGhosts}
use Rattle.certificate_text.specs.BlockText.{refusal_line}
use Rattle.talk.specs.Talks.{Spoken, Talk, TalkAnswers, TalkFront, TalkGoesOn, TalkWants}
use Rattle.talk.specs.declared.channel.Channel.{Channel}
use Rattle.talk.specs.declared.fault.AnswerFault.{AnswerFault}
use Rattle.talk.specs.declared.fault.AnswerFault.TheVariants.{Write, Memory}

-- what a talk meets outside: a reader before a source, a sink, and the steps counted
pub record Around : Type 0 where
  pub reader : Reader
  pub source : Side
  pub sink : Side
  pub steps : ℕ

abbrev pub around : Reader → Option (List ℕ) → Count → Option (List ℕ) → Count → ℕ → Around
around reader left reads held writes steps =
    record { reader = reader; source = record { bytes = left; faults = reads }; sink = record { bytes = held; faults = writes }; steps = steps }

-- what it meets on a channel
abbrev pub met_on : {S K : Type 0} → SourceGhosts S → SinkGhosts K → Channel S K → ℕ → Around
met_on s k c steps = record { reader = c.lines.now; source = source_side s c.source.now; sink = sink_side k c.sink.now; steps = steps }

-- a channel keeps its four ends
pub record KeepsEnds {S K : Type 0} (c c' : Channel S K) : Type 0 where
  pub lines : c'.lines.ghost_name ≡ c.lines.ghost_name
  pub source : c'.source.ghost_name ≡ c.source.ghost_name
  pub out : c'.out.ghost_name ≡ c.out.ghost_name
  pub sink : c'.sink.ghost_name ≡ c.sink.ghost_name

-- what holds of the lines that aren't given yet, where the source tells its bytes
abbrev pub OfLines : Option (List Line) → (List Line → Type 0) → Type 0
OfLines None Holds = ⊤
OfLines (Some lines) Holds = Holds lines

-- nothing is left to read: the source has ended, and nothing is pending
abbrev pub IsReadOut : Reader → Type 0
IsReadOut r = (r.ended ≡ true) × (r.pending ≡ [])

-- the last of some lines quits
abbrev pub EndsByQuit : (List ℕ → Type 0) → List (List ℕ) → Type 0
EndsByQuit Quits texts = (first : List (List ℕ)) × (line : List ℕ) × (texts ≡ first ++ (line ∷ [])) × Quits line

-- a talk was held, by its status: 0 done, 1 refused, 3 the source failed, 4 the sink failed, 5 there was no memory
pub record HoldsTalk {S : Type 0} (talk : Talk S) (status : ℕ) (a b : Around) : Type 0 where
  pub did : Spoken
  -- the lines that it heard
  pub heard : List (List ℕ)
  pub passes : Passes a.reader b.reader a.source.bytes b.source.bytes heard
  pub over : did.status ≡ status
  pub known : (status ≤ 5) × (status ≢ 2)
  pub written : Appends a.sink.bytes b.sink.bytes did.text
  pub counted : b.steps ≡ a.steps + did.steps
  -- the source counted a fault just where it ended the talk, and so did the sink
  pub reads : RoseIf (status ≡ 3) a.source.faults b.source.faults
  pub writes : RoseIf (status ≡ 4) a.sink.faults b.sink.faults
  -- at statuses 0 and 1 it is the whole talk over the lines that were left, or its refusal
  pub whole : status ≤ 1 → OfLines (lines_left a.reader a.source.bytes) (λ lines. TalkAnswers talk a.reader.number lines did)
  -- at status 0 all is read, or a line that quits
  pub read_on : status ≡ 0 → IsReadOut b.reader ⊎ EndsByQuit talk.Quits heard
  -- at status 3 it is the talk over just the lines that it heard, and the next line wasn't there whole
  pub so_far : status ≡ 3 → TalkGoesOn talk a.reader.number heard did × (is_settled b.reader ≡ false)
  -- at status 4 a front
  pub front : status ≡ 4 → OfLines (lines_left a.reader a.source.bytes) (λ lines. TalkFront talk a.reader.number lines did)
  -- without memory nothing is written and no line is heard, or the last line that it heard wanted memory
  pub no_memory : status ≡ 5 → ((did.text ≡ []) × (heard ≡ [])) ⊎ TalkWants talk a.reader.number heard did

-- the same on a channel
abbrev pub HoldsOn : {S K T : Type 0} → SourceGhosts S → SinkGhosts K → Talk T → ℕ → Channel S K → ℕ → Channel S K → ℕ → Type 0
HoldsOn s k talk status c steps c' steps' = HoldsTalk talk status (met_on s k c steps) (met_on s k c' steps')

-- the status after a text that was sent
abbrev pub status_after : {T E : Type 0} → Result T E → ℕ → ℕ
status_after (Ok done) status = status
status_after (Err fault) status = 4

-- a text was put and flushed, whole at `Ok`, and a front of it at `Err`
pub record SendsBy {T : Type 0} (result : Result T WriteFault) (text : List ℕ) (held : Option (List ℕ)) (pending : List ℕ) (faults : Count)
    (held' : Option (List ℕ)) (pending' : List ℕ) (faults' : Count) : Type 0 where
  pub put : PutsText held pending text held' pending' result
  pub flushed : OnOk result (pending' ≡ [])
  pub cause : HasCause faults faults' result

-- a refusal was sent, and the talk is over
pub record RefusesBy (text : List ℕ) (status : ℕ) (held : Option (List ℕ)) (pending : List ℕ) (faults : Count) (held' : Option (List ℕ))
    (pending' : List ℕ) (faults' : Count) : Type 0 where
  pub sent : Result (Unit {0}) WriteFault
  pub over : status ≡ status_after sent 1
  pub sends : SendsBy sent text held pending faults held' pending' faults'

-- a talk over so many lines is over, by how listening ended
abbrev pub ConcludesTalk : Ending AnswerFault → ℕ → ℕ → Option (List ℕ) → List ℕ → Count → Option (List ℕ) → List ℕ → Count → Type 0
ConcludesTalk Finished number status held pending faults held' pending' faults' = (status ≡ 0) × (held' ≡ held) × (faults' ≡ faults)
ConcludesTalk InputEnded number status held pending faults held' pending' faults' = (status ≡ 0) × (held' ≡ held) × (faults' ≡ faults)
ConcludesTalk (Failed (Write fault)) number status held pending faults held' pending' faults' = (status ≡ 4) × (held' ≡ held) × (faults' ≡ faults)
ConcludesTalk (Failed Memory) number status held pending faults held' pending' faults' = (status ≡ 5) × (held' ≡ held) × (faults' ≡ faults)
ConcludesTalk (Fault ReadFault) number status held pending faults held' pending' faults' = (status ≡ 3) × (held' ≡ held) × (faults' ≡ faults)
ConcludesTalk (Fault LineTooLong) number status held pending faults held' pending' faults' =
    RefusesBy (refusal_line codes.LineTooLong (number + 1)) status held pending faults held' pending' faults'
ConcludesTalk (Fault InputTooLong) number status held pending faults held' pending' faults' =
    RefusesBy (refusal_line codes.InputTooLong (number + 1)) status held pending faults held' pending' faults'

-- the same of a sink with the bytes that are pending before it
abbrev pub SendsTo : {K T : Type 0} → SinkGhosts K → Result T WriteFault → List ℕ → K → List ℕ → K → List ℕ → Type 0
SendsTo g result text sink pending sink' pending' = SendsBy result text (g.held sink) pending (g.faults sink) (g.held sink') pending' (g.faults sink')

abbrev pub RefusesTo : {K : Type 0} → SinkGhosts K → List ℕ → ℕ → K → List ℕ → K → List ℕ → Type 0
RefusesTo g text status sink pending sink' pending' = RefusesBy text status (g.held sink) pending (g.faults sink) (g.held sink') pending' (g.faults sink')

abbrev pub ConcludesTo : {K : Type 0} → SinkGhosts K → Ending AnswerFault → ℕ → ℕ → K → List ℕ → K → List ℕ → Type 0
ConcludesTo g ending number status sink pending sink' pending' =
    ConcludesTalk ending number status (g.held sink) pending (g.faults sink) (g.held sink') pending' (g.faults sink')
