-- The headline: what every run of a session and of a replan and every plan that is written keeps, in the law's words.
use Rattle.std.specs.Prelude.{◌≡◌, ℕ, ◌+◌, ◌<◌, ◌≤◌, List, ◌++◌, length, Result, Ok, Err, ◌⊎◌}
use Rattle.evac_law.specs.declared.code.Code.{Code}
use Rattle.evac_law.specs.declared.model.Model.{Model}
use Rattle.evac_law.specs.declared.plan.Move.{Move}
use Rattle.evac_law.specs.Building.{people}
use Rattle.evac_law.specs.Certificates.{IsClearable, stated_cut}
use Rattle.evac_law.specs.Cuts.{cut_value}
use Rattle.evac_law.specs.Plans.{IsEarliest, IsFeasible, out_by}
use Rattle.line_io.specs.Line.{Line, lines_of, text_lines}
use Rattle.model_text.specs.Commands.{command_of}
use Rattle.model_text.specs.Readings.{Reading, Described, Refused, model_of}
use Rattle.model_text.specs.Taken.{Description}
use Rattle.building_table.specs.Names.{NameTable, names_of}
use Rattle.certificate_text.specs.BlockLaws.{ReadsBack}
use Rattle.edit_session.specs.Sessions.{Begins, SessionState}
use Rattle.edit_session.specs.Thrift.{IsCounted, IsThrifty, IsThriftyOpening}
use Rattle.replan.specs.Rest.{rest}
use Rattle.replan.specs.RestLaws.{IsBestFrom}
use Rattle.talk.specs.ReplanTalks.{ReplanOpens, ReplanReplies, Replanned, carried_on, gone_text, replan}
use Rattle.session_text.specs.StateTexts.{block_text}
use Rattle.talk.specs.Sessions.{Opens, Replies, State, session}
use Rattle.talk.specs.Short.{OpensShort}
use Rattle.talk.specs.Talks.{EndsAt, RepliesTo, Reply, followed}
use Rattle.evac_top.specs.Accounts.{Account, IsRefusal}
use Rattle.evac_top.specs.Inputs.{Asked, input_of}
use Rattle.evac_top.specs.Runs.{RunsKeep}
use Rattle.evac_top.specs.Solve.{IsShort, SaysPlan}
use Rattle.evac_top.specs.Talking.{ReadsOn, spoken}
use Rattle.evac_top.specs.declared.words.Flags.{Flags}
use Rattle.evac_top.specs.declared.words.Mode.TheVariants.{Replan, Session, Solve}

-- a plan takes everybody out by c and not before, and no feasible plan has more people out by any period
pub record IsBestPlan (m : Model) (p : List Move) (c : ℕ) : Type 0 where
  pub feasible : IsFeasible m p m.horizon
  pub in_time : c ≤ m.horizon
  pub all_out : out_by m p c ≡ people m
  pub not_before : (k : ℕ) → k < c → out_by m p k < people m
  pub best : IsEarliest m p

-- an answer block that was written: it reads back as a best plan, and for every period a stated cut is worth as many as are out by then
pub record IsBestBlock (s : State) (text : List ℕ) : Type 0 where
  pub block : text ≡ block_text s.index s.standing
  pub reads_back : ReadsBack s.index s.standing.model s.standing.plan s.standing.labels s.standing.last
  pub plan : IsBestPlan s.standing.model s.standing.plan s.standing.last
  pub cuts : (k : ℕ) → cut_value s.standing.model (stated_cut s.standing.model s.standing.labels s.standing.last k) k ≡ out_by s.standing.model s.standing.plan k

-- ---- a session

-- an edit or an undo was answered by the block of the edited model, and a count bounds what the repair took back and how often it sent people
pub record IsRepaired (s : State) (r : Reply State) : Type 0 where
  pub answer : IsBestBlock r.after r.text
  pub thrifty : IsThrifty s.standing.model s.standing.plan r.after.standing.model r.after.standing.plan r.after.standing.last r.after.standing.work
  pub counted : IsCounted r.after.standing.work r.steps

-- what a line got: a repaired plan, or model and plan are as they were
abbrev pub KeepsPromise : State → Reply State → Type 0
KeepsPromise s r = IsRepaired s r ⊎ (r.after ≡ s)

-- what a session wrote on a building and some lines after it: it opened with block 0, of a best plan, on which no edit is kept, and then comes what
-- each line got, up to the end. It ends with the input, with a line that quits, or with the refusal of a line that has a fault of its own
pub record KeepsAll (d : Description) (last : ℕ) (lines : List Line) (x : Account) : Type 0 where
  pub answered : List (List ℕ)
  pub rest : List Line
  pub parts : lines ≡ text_lines answered ++ rest
  pub opening : Reply State
  pub more : Reply State
  pub opens : Opens d.model opening
  pub first : IsBestBlock opening.after opening.text
  pub replies : RepliesTo (λ line s text r. Replies (names_of d) line s (command_of text) r × KeepsPromise s r) last opening.after answered more
  pub ends : EndsAt (session (names_of d) d.model) (last + length answered) rest (followed opening more) (spoken x)

-- by what is read: the building can be cleared, is opened and keeps this, or it can't be cleared and is refused with its shortfall; a fault is
-- refused by its line
abbrev pub KeepsTalk : (Description → ℕ → List Line → Account → Type 0) → Reading → Account → Type 0
KeepsTalk Keeps (Described d last rest) x = (IsClearable d.model × Keeps d last rest x) ⊎ ((¬ IsClearable d.model) × OpensShort d.model last (spoken x))
KeepsTalk Keeps (Refused code line) x = IsRefusal (code, line) x

-- each run of a session keeps all that, and takes all of its input or a line that quits
abbrev pub SessionsKeepPromise : Type 0
SessionsKeepPromise = RunsKeep Session (λ input x. KeepsTalk KeepsAll (model_of (lines_of input)) x × ReadsOn session input x)

-- ---- a plan that is carried out

-- a line carried the plan out up to a moment: who is gone is said, and then the block of a best plan of what is left. With the moves before the
-- moment it is best among all plans that make the same moves, and a count bounds how often it sent people
pub record IsCarriedOut (s : Replanned) (r : Reply Replanned) : Type 0 where
  pub moment : ℕ
  pub last : ℕ
  pub block : List ℕ
  pub text : r.text ≡ gone_text moment r.after.gone last ++ block
  pub answer : IsBestBlock r.after.session block
  pub of_rest : r.after.session.standing.model ≡ rest s.session.standing.model s.session.standing.plan moment
  pub best : IsBestFrom s.session.standing.model s.session.standing.plan moment r.after.session.standing.plan
  pub thrifty : IsThriftyOpening r.after.session.standing.model r.after.session.standing.plan r.after.session.standing.last r.after.session.standing.work
  pub counted : r.steps ≡ r.after.session.standing.work.pushes

-- what a line got: the plan was carried out, or it got what a line of a session gets, or all is as it was
abbrev pub KeepsCarried : Replanned → Reply Replanned → Type 0
KeepsCarried s r = IsCarriedOut s r ⊎ (((q : Reply State) × KeepsPromise s.session q × (r ≡ carried_on s q)) ⊎ (r.after ≡ s))

-- what a replan wrote on a building and some lines after it: as a session, with what was carried out; it opens with nobody gone
pub record KeepsReplan (d : Description) (last : ℕ) (lines : List Line) (x : Account) : Type 0 where
  pub answered : List (List ℕ)
  pub rest : List Line
  pub parts : lines ≡ text_lines answered ++ rest
  pub opening : Reply Replanned
  pub more : Reply Replanned
  pub opens : ReplanOpens d.model opening
  pub first : IsBestBlock opening.after.session opening.text
  pub replies : RepliesTo (λ line s text r. ReplanReplies (names_of d) line s text r × KeepsCarried s r) last opening.after answered more
  pub ends : EndsAt (replan (names_of d) d.model) (last + length answered) rest (followed opening more) (spoken x)

-- each run of a replan keeps all that
abbrev pub ReplansKeepPromise : Type 0
ReplansKeepPromise = RunsKeep Replan (λ input x. KeepsTalk KeepsReplan (model_of (lines_of input)) x × ReadsOn replan input x)

-- ---- a plan that is written

-- what was written on a building that is planned: block 0, of a best plan, and after it what is asked for
pub record KeepsBlock (flags : Flags) (names : NameTable) (m : Model) (x : Account) : Type 0 where
  pub opening : SessionState
  pub begins : Begins m opening
  pub done : x.status ≡ 0
  pub first : IsBestBlock (record { index = 0; standing = opening }) (block_text 0 opening)
  pub says : SaysPlan flags names opening x.written
  pub counted : x.steps ≡ opening.work.pushes

-- by what is read: all of a building with nothing after it is taken, and it can be cleared and is planned, or it can't and is refused
abbrev pub KeepsPlan : Flags → List ℕ → Result Asked (Code × ℕ) → Account → Type 0
KeepsPlan flags input (Ok asked) x =
    let m = asked.building.model in
    (x.taken ≡ input) × ((IsClearable m × KeepsBlock flags (names_of asked.building) m x) ⊎ ((¬ IsClearable m) × IsShort m asked.last x))
KeepsPlan flags input (Err fault) x = IsRefusal fault x

-- each run that plans a building keeps that
abbrev pub PlansKeepPromise : Type 0
PlansKeepPromise = (flags : Flags) → RunsKeep (Solve flags) (λ input x. KeepsPlan flags input (input_of (lines_of input)) x)
