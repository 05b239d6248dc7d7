-- What a run does, by its mode and its input: each mode has one row in one table.
use Rattle.std.specs.Prelude.{◌≡◌, ℕ, Bool, true, false, List, [], length, Result, Some, None}
use Rattle.std.specs.declared.option.Option.{Option}
use Rattle.evac_law.specs.declared.code.Code.{Code}
use Rattle.evac_law.specs.declared.code.Code.TheVariants.{UnknownWords}
use Rattle.line_io.specs.Line.{Line, lines_of}
use Rattle.model_text.specs.Readings.{model_of}
use Rattle.certificate_text.specs.BlockText.{refusal_line}
use Rattle.talk.specs.ReplanTalks.{replan}
use Rattle.talk.specs.Sessions.{session}
use Rattle.talk.specs.Studies.{study}
use Rattle.evac_top.specs.Accounts.{Account, Ends, IsFront}
use Rattle.evac_top.specs.Check.{Checks}
use Rattle.evac_top.specs.Complete.{ChecksLines, SolvesAll, TalksAll, UpgradesAll}
use Rattle.evac_top.specs.Drill.{Drills}
use Rattle.evac_top.specs.Inputs.{Claimed, IsClaimOf, IsOpenClaim, IsOpenInput, input_of}
use Rattle.evac_top.specs.Solve.{Solves}
use Rattle.evac_top.specs.Talking.{ReadsOn, TalkOn, Talks, TalksFront, TalksMemory, TalksSoFar}
use Rattle.evac_top.specs.Upgrade.{Upgrades}
use Rattle.evac_top.specs.declared.words.Mode.{Mode}
use Rattle.evac_top.specs.declared.words.Mode.TheVariants.{Solve, Check, Session, Study, Replan, Upgrade, Drill}

-- what the runs of a mode do
pub record ModeRuns : Type 1 where
  -- whether the mode reads its input
  pub reads : Bool
  -- a run that is over, at statuses 0, 1 and 2
  pub Answers : List ℕ → Account → Type 0
  -- a run whose source failed after these whole lines, none of which ended it; a mode that doesn't read has no such run
  pub AnswersSoFar : List Line → Account → Type 0
  -- a run whose sink failed: the front of an answer
  pub AnswersFront : List ℕ → Account → Type 0
  -- a run without memory
  pub AnswersMemory : Account → Type 0
  -- what a run must answer that nothing failed
  pub AnswersAll : List ℕ → Account → Type 0

-- ---- three kinds of modes

-- nothing was written, and no step counted
abbrev pub WritesNothing : Account → Type 0
WritesNothing x = (x.written ≡ []) × (x.steps ≡ 0)

-- one that reads nothing
abbrev pub reads_nothing : (Account → Type 0) → (Account → Type 0) → ModeRuns
reads_nothing Answers All = record {
  reads = false;
  Answers = λ input x. Answers x;
  AnswersSoFar = λ lines x. ⊥;
  AnswersFront = λ input x. IsFront Answers x;
  AnswersMemory = λ x. (x.taken ≡ []) × (x.written ≡ []);
  AnswersAll = λ input x. All x;
}

-- one that reads all of its input before it writes: after these lines its input isn't over yet
abbrev pub reads_first : (List Line → Type 0) → (List ℕ → Account → Type 0) → (List ℕ → Account → Type 0) → ModeRuns
reads_first IsOpen Answers All = record {
  reads = true;
  Answers = Answers;
  AnswersSoFar = λ lines x. IsOpen lines × WritesNothing x;
  AnswersFront = λ input x. IsFront (Answers input) x;
  AnswersMemory = λ x. x.written ≡ [];
  AnswersAll = All;
}

-- one that holds a talk, of which runs without memory are these
abbrev pub holds_talk : {S : Type 0} → TalkOn S → (Account → Type 0) → ModeRuns
holds_talk talk Memory = record {
  reads = true;
  Answers = λ input x. Talks talk (model_of (lines_of input)) x × ReadsOn talk input x;
  AnswersSoFar = λ lines x. TalksSoFar talk (model_of lines) (length lines) x;
  AnswersFront = λ input x. TalksFront talk (model_of (lines_of input)) x;
  AnswersMemory = Memory;
  AnswersAll = λ input x. TalksAll talk (model_of (lines_of input)) x;
}

-- ---- the modes

-- the text for words that ask for nothing
abbrev pub words_text : List ℕ
words_text = refusal_line UnknownWords 0

-- words that ask for nothing are refused, and nothing is read
abbrev pub RefusesWords : Account → Type 0
RefusesWords x = (x.taken ≡ []) × Ends x 2 words_text 0

-- an input is read as a building with a block after it, or as a first fault, and is checked
abbrev pub ChecksInput : List ℕ → Account → Type 0
ChecksInput input x = (claim : Result Claimed (Code × ℕ)) × IsClaimOf (lines_of input) claim × Checks input claim x

-- what the runs of each mode do, and those of words that ask for none
unfoldable pub runs_of : Option Mode → ModeRuns
runs_of None = reads_nothing RefusesWords (λ x. x.status ≡ 2)
runs_of (Some (Solve flags)) =
    reads_first IsOpenInput (λ input x. Solves flags input (input_of (lines_of input)) x) (λ input x. SolvesAll (input_of (lines_of input)) x)
runs_of (Some Check) = reads_first IsOpenClaim ChecksInput (λ input x. ChecksLines (lines_of input) x)
runs_of (Some Session) = holds_talk session (λ x. x.written ≡ [])
runs_of (Some Study) = holds_talk study (λ x. x.written ≡ [])
runs_of (Some Replan) = holds_talk replan (λ x. TalksMemory replan x)
runs_of (Some Upgrade) =
    reads_first IsOpenInput (λ input x. Upgrades input (input_of (lines_of input)) x) (λ input x. UpgradesAll (input_of (lines_of input)) x)
runs_of (Some (Drill number)) = reads_nothing (Drills number) (λ x. x.status ≡ 0)

-- a mode that holds a talk: what it answers is what a talk comes to
pub record IsTalk {S : Type 0} (mode : Mode) (talk : TalkOn S) : Type 0 where
  pub input : (runs_of (Some mode)).reads ≡ true
  pub answers : (input : List ℕ) (x : Account) → Talks talk (model_of (lines_of input)) x → ReadsOn talk input x → (runs_of (Some mode)).Answers input x
  pub talks : (input : List ℕ) (x : Account) → (runs_of (Some mode)).Answers input x → Talks talk (model_of (lines_of input)) x
  pub so_far : (lines : List Line) (x : Account) → TalksSoFar talk (model_of lines) (length lines) x → (runs_of (Some mode)).AnswersSoFar lines x
  pub front : (input : List ℕ) (x : Account) → TalksFront talk (model_of (lines_of input)) x → (runs_of (Some mode)).AnswersFront input x
  pub memory : (x : Account) → TalksMemory talk x → (runs_of (Some mode)).AnswersMemory x
