-- A session over lines: what each line gets, by what it commands.
use Rattle.std.specs.Prelude.{◌≡◌, ℕ, ◌+◌, nat_lt, if◌then◌else◌, List, [], ◌∷◌, Result, Ok, Err, ◌⊎◌}
use Rattle.evac_law.specs.declared.code.Code.TheVariants.{NoPeriod, NothingToUndo}
use Rattle.evac_law.specs.declared.edit.Edit.{Edit}
use Rattle.evac_law.specs.declared.edit.EditFault.{EditFault}
use Rattle.evac_law.specs.declared.model.Model.{Model}
use Rattle.evac_law.specs.Edits.{applied, fault_code}
use Rattle.evac_law.specs.Plans.{IsEarliest}
use Rattle.model_text.specs.declared.command.Command.{Command}
use Rattle.model_text.specs.declared.command.Command.TheVariants as commands
use Rattle.model_text.specs.declared.command.Report.{Report}
use Rattle.model_text.specs.declared.command.Report.TheVariants.{Routes, Clearing, Bottlenecks, Summary}
use Rattle.model_text.specs.declared.fault.TextFault.{TextFault}
use Rattle.model_text.specs.Codes.{text_fault_code}
use Rattle.model_text.specs.Commands.{command_of}
use Rattle.building_table.specs.declared.faults.NameFault.{NameFault}
use Rattle.building_table.specs.Built.{name_code}
use Rattle.building_table.specs.EditNames.{edit_named}
use Rattle.building_table.specs.Names.{NameTable}
use Rattle.certificate_text.specs.BlockLaws.{ReadsBack}
use Rattle.edit_session.specs.Sessions.{Begins, GoesOn, SessionState, with_former}
use Rattle.edit_session.specs.Thrift.{IsCounted, IsSpent}
use Rattle.session_text.specs.StateTexts.{SaysRoutesOf, SaysSummary, block_text, bottlenecks_of, clearing_of, cut_of, work_of}
use Rattle.talk.specs.Short.{IsShortText, OpensShort}
use Rattle.talk.specs.Talks.{Reply, Talk, TalkGoes, WantsNone, refuses, says}

-- where a session is between two lines: the index of the block written last, and what stands since then
pub record State : Type 0 where
  pub index : ℕ
  pub standing : SessionState

-- ---- blocks

-- the text is the block of a state. Its plan takes everybody out, with a cut for each period that is worth as many as are out by then, so no
-- feasible plan has more people out by that period; and the block reads back
pub record IsAnswerText (s : State) (text : List ℕ) : Type 0 where
  pub block : text ≡ block_text s.index s.standing
  pub best : IsEarliest s.standing.model s.standing.plan
  pub reads_back : ReadsBack s.index s.standing.model s.standing.plan s.standing.labels s.standing.last

-- ---- the opening

-- a model is opened with block 0, which takes the pushes of its plan
pub record Opens (m : Model) (r : Reply State) : Type 0 where
  pub begins : Begins m r.after.standing
  pub first : r.after.index ≡ 0
  pub answer : IsAnswerText r.after r.text
  pub counted : r.steps ≡ r.after.standing.work.pushes

-- ---- the replies

-- the session goes on to a model with its next block, and with these models before it
pub record Advances (s : State) (m : Model) (earlier : List Model) (r : Reply State) : Type 0 where
  pub goes_on : GoesOn s.standing m earlier r.after.standing
  pub next : r.after.index ≡ s.index + 1
  pub answer : IsAnswerText r.after r.text
  pub counted : IsCounted r.after.standing.work r.steps

-- a model can't be cleared, and everything is as it was
pub record StaysBefore (s : State) (m : Model) (line : ℕ) (r : Reply State) : Type 0 where
  pub most : ℕ
  pub short : IsShortText m line most r.text
  pub same : r.after ≡ s
  pub spent : IsSpent s.standing.model s.standing.plan m most r.steps

-- an edit, by what it makes of the model: a fault, or a model that is either reached or refused
abbrev pub Edits : ℕ → State → Result (Model × Edit) EditFault → Reply State → Type 0
Edits line s (Err fault) r = r ≡ refuses s (fault_code fault) line
Edits line s (Ok edited) r = Advances s edited.0 (with_former s.standing) r ⊎ StaysBefore s edited.0 line r

-- an edit by names, by the edit at their places
abbrev pub AsksEdit : ℕ → State → Result Edit NameFault → Reply State → Type 0
AsksEdit line s (Err fault) r = r ≡ refuses s (name_code fault) line
AsksEdit line s (Ok e) r = Edits line s (applied s.standing.model e) r

-- an undo, by the models before
abbrev pub Undoes : ℕ → State → List Model → Reply State → Type 0
Undoes line s [] r = r ≡ refuses s NothingToUndo line
Undoes line s (m ∷ earlier) r = Advances s m earlier r

-- the cut of a period, where there is the period
abbrev pub cut_reply : ℕ → State → ℕ → Reply State
cut_reply line s k = if nat_lt s.standing.model.horizon k then refuses s NoPeriod line else says s (cut_of s.standing k)

-- a report on the plan that stands
abbrev pub Reports : NameTable → State → Report → Reply State → Type 0
Reports names s Routes r = (text : List ℕ) × SaysRoutesOf s.index s.standing text × (r ≡ says s text)
Reports names s Clearing r = r ≡ says s (clearing_of names s.index s.standing)
Reports names s Bottlenecks r = r ≡ says s (bottlenecks_of s.index s.standing)
Reports names s Summary r = (text : List ℕ) × SaysSummary names s.index s.standing text × (r ≡ says s text)

-- what a line gets, by what it commands; a line that quits gets nothing
abbrev pub Replies : NameTable → ℕ → State → Result Command TextFault → Reply State → Type 0
Replies names line s (Err fault) r = r ≡ refuses s (text_fault_code fault) line
Replies names line s (Ok commands.Blank) r = r ≡ says s []
Replies names line s (Ok (commands.Edit edit)) r = AsksEdit line s (edit_named names edit) r
Replies names line s (Ok commands.Undo) r = Undoes line s s.standing.former r
Replies names line s (Ok (commands.Cut k)) r = r ≡ cut_reply line s k
Replies names line s (Ok (commands.Report report)) r = Reports names s report r
Replies names line s (Ok commands.Work) r = r ≡ says s (work_of s.standing)
Replies names line s (Ok commands.Quit) r = ⊥

-- ---- runs

-- a session on a model, whose commands name by these names
abbrev pub session : NameTable → Model → Talk State
session names m = record {
  Opens = Opens m;
  Refuses = OpensShort m;
  Gets = λ line s text r. Replies names line s (command_of text) r;
  Quits = λ text. command_of text ≡ Ok commands.Quit;
  Wants = WantsNone;
}

-- a session over some lines: all are answered, and none of them ends it
abbrev pub SessionGoes : NameTable → Model → ℕ → List (List ℕ) → Reply State → Type 0
SessionGoes names m before lines r = TalkGoes (session names m) before lines r
