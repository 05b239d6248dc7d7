-- A run, from outside: what it took, wrote and counted, its status, and the causes of its failures; and that it answers its input.
use Rattle.std.specs.Prelude.{◌≡◌, ◌≢◌, ℕ, ◌+◌, ◌≤◌, Bool, true, false, List, [], length, None, Some}
use Rattle.std.specs.declared.option.Option.{Option}
use Rattle.std.specs.Io.KnownBytes.{Appends, Consumes}
use Rattle.line_io.specs.Causes.{Rose}
use Rattle.line_io.specs.Line.{input_limit, lines_of, whole_part}
use Rattle.line_io.specs.declared.limits.TheConstants.{BUFFER_SIZE}
use Rattle.line_io.specs.declared.outside.Sink.{Ghosts as SinkGhosts}
use Rattle.line_io.specs.declared.outside.Source.{Ghosts as SourceGhosts}
use Rattle.evac_top.specs.Accounts.{Account, Outside, Told, met_at}
use Rattle.evac_top.specs.Answers.{runs_of}
use Rattle.evac_top.specs.declared.words.Mode.{Mode}

-- an account of a run from one state of the outside to the next: of an input without an end, it takes no more than the limit and one buffer
pub record IsAccount (before after : Outside) (status : ℕ) (x : Account) : Type 0 where
  pub answered : x.status ≡ status
  pub taken : Consumes before.source.bytes after.source.bytes x.taken
  pub few_taken : length x.taken ≤ input_limit + BUFFER_SIZE
  pub written : Appends before.sink.bytes after.sink.bytes x.written
  pub counted : after.steps ≡ before.steps + x.steps

-- the causes of a status: each count of faults rose where its object ended the run, and is the same else
pub record HasCauses (status : ℕ) (before after : Outside) : Type 0 where
  pub known : status ≤ 5
  pub reads_same : status ≢ 3 → after.source.faults ≡ before.source.faults
  pub reads_rose : status ≡ 3 → Rose before.source.faults after.source.faults
  pub writes_same : status ≢ 4 → after.sink.faults ≡ before.sink.faults
  pub writes_rose : status ≡ 4 → Rose before.sink.faults after.sink.faults

-- what holds of an input: of the bytes left, where the source tells them; who reads nothing asks for none
abbrev pub OfInput : Bool → Option (List ℕ) → (List ℕ → Type 0) → Type 0
OfInput false left Holds = Holds []
OfInput true left Holds = Told left Holds

-- a run in the mode that its words ask for: 0 done, 1 refused, 2 the words are refused, 3 the source failed, 4 the sink failed, 5 there was no memory
pub record Runs (mode : Option Mode) (status : ℕ) (before after : Outside) : Type 0 where
  pub words : status ≡ 2 → mode ≡ None
  pub causes : HasCauses status before after
  pub did : Account
  pub account : IsAccount before after status did
  pub answered : status ≤ 2 → OfInput (runs_of mode).reads before.source.bytes (λ input. (runs_of mode).Answers input did)
  pub source : status ≡ 3 → (runs_of mode).AnswersSoFar (lines_of (whole_part did.taken)) did
  pub sink : status ≡ 4 → OfInput (runs_of mode).reads before.source.bytes (λ input. (runs_of mode).AnswersFront input did)
  pub memory : status ≡ 5 → (runs_of mode).AnswersMemory did

-- the same of a run between a source and a sink
abbrev pub RunsOn : {S K : Type 0} → SourceGhosts S → SinkGhosts K → Option Mode → ℕ → S → K → ℕ → S → K → ℕ → Type 0
RunsOn s k mode status source sink steps source' sink' steps' = Runs mode status (met_at s k source sink steps) (met_at s k source' sink' steps')

-- a run in which neither the source's count of faults rose nor the sink's, and there was memory, answers its input
abbrev pub RunsAnswer : Type 0
RunsAnswer =
    (mode : Option Mode) (status : ℕ) (before after : Outside) (r : Runs mode status before after) → ¬ Rose before.source.faults after.source.faults
    → ¬ Rose before.sink.faults after.sink.faults → status ≢ 5 → OfInput (runs_of mode).reads before.source.bytes (λ input. (runs_of mode).AnswersAll input r.did)

-- each run of a mode in which neither count rose, and there was memory, keeps this of its input and of what it did, where source and sink tell their bytes
abbrev pub RunsKeep : Mode → (List ℕ → Account → Type 0) → Type 0
RunsKeep mode Keeps =
    (status : ℕ) (before after : Outside) (r : Runs (Some mode) status before after) → ¬ Rose before.source.faults after.source.faults
    → ¬ Rose before.sink.faults after.sink.faults → status ≢ 5 → OfInput (runs_of (Some mode)).reads before.source.bytes (λ input. Keeps input r.did)
