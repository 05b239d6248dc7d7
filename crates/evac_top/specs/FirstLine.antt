-- What the headline asks of the first line after a building, when neither an edit was made nor a plan carried out. So a session or a replan that writes
-- its first block and stops answering doesn't keep it; nor does one that answers an edit by another building's block or refuses it as too late, that
-- answers an undo by a block, that tells of work before any edit, or that says of people that they are gone whom no plan brought out.
use Rattle.std.specs.Prelude.{◌≡◌, ◌≢◌, ℕ, ◌+◌, ◌≤◌, List, [], ◌∷◌, ◌++◌, slice_index, Ok, IsTrue}
use Rattle.evac_law.specs.declared.code.Code.TheVariants.{NothingToUndo}
use Rattle.evac_law.specs.declared.edit.Edit.{Edit}
use Rattle.evac_law.specs.declared.model.Model.{Model}
use Rattle.evac_law.specs.Certificates.{IsClearable}
use Rattle.evac_law.specs.Edits.{applied}
use Rattle.line_io.specs.Line.{Line}
use Rattle.model_text.specs.declared.command.Command.TheVariants as commands
use Rattle.model_text.specs.declared.named_edit.NamedEdit.{NamedEdit}
use Rattle.model_text.specs.Commands.{command_of}
use Rattle.model_text.specs.Taken.{Description}
use Rattle.building_table.specs.EditNames.{edit_named}
use Rattle.building_table.specs.Names.{names_of}
use Rattle.certificate_text.specs.BlockText.{refusal_line}
use Rattle.edit_session.specs.Thrift.{IsThrifty}
use Rattle.replan.specs.Committed.{gone_by}
use Rattle.talk.specs.ReplanTalks.{IsLastGone, asked_moment, asks_advance, gone_text}
use Rattle.report_text.specs.ReportText.{work_text}
use Rattle.talk.specs.Sessions.{State}
use Rattle.talk.specs.Talks.{Reply}
use Rattle.evac_top.specs.Accounts.{Account}
use Rattle.evac_top.specs.Headline.{IsBestBlock, KeepsAll, KeepsReplan}

-- a line is an edit of a building that is accepted, and leads to another that can be cleared
pub record IsAcceptedEdit (d : Description) (line : List ℕ) (edited : Model) : Type 0 where
  pub by_names : NamedEdit
  pub edit : Edit
  pub inverse : Edit
  pub says : command_of line ≡ Ok (commands.Edit by_names)
  pub named : edit_named (names_of d) by_names ≡ Ok edit
  pub accepted : applied d.model edit ≡ Ok (edited, inverse)
  pub can : IsClearable edited

-- after a text that opened with a state comes block 1, of a best plan of a building: one edit is kept, and the repair was thrifty
pub record GoesOnWith (edited : Model) (s : State) (text : List ℕ) (x : Account) : Type 0 where
  pub reply : Reply State
  pub behind : List ℕ
  pub of_edited : reply.after.standing.model ≡ edited
  pub numbered : reply.after.index ≡ 1
  pub kept : reply.after.standing.former ≡ s.standing.model ∷ []
  pub best : IsBestBlock reply.after reply.text
  pub thrifty : IsThrifty s.standing.model s.standing.plan edited reply.after.standing.plan reply.after.standing.last reply.after.standing.work
  pub next : x.written ≡ text ++ (reply.text ++ behind)

-- whoever keeps the headline answers such an edit by the block of a best plan of the edited building
abbrev pub FirstEditGetsItsBlock : Type 0
FirstEditGetsItsBlock =
    (d : Description) (last : ℕ) (line : List ℕ) (rest : List Line) (x : Account) (edited : Model) (kept : KeepsAll d last (Ok line ∷ rest) x)
    → IsAcceptedEdit d line edited → GoesOnWith edited kept.opening.after kept.opening.text x

-- in a replan too: before an advance no edit comes too late
abbrev pub FirstReplanEditGetsItsBlock : Type 0
FirstReplanEditGetsItsBlock =
    (d : Description) (last : ℕ) (line : List ℕ) (rest : List Line) (x : Account) (edited : Model) (kept : KeepsReplan d last (Ok line ∷ rest) x)
    → IsAcceptedEdit d line edited → GoesOnWith edited kept.opening.after.session kept.opening.text x

-- and whoever writes block 0 alone doesn't keep it
abbrev pub StoppingIsRefused : Type 0
StoppingIsRefused =
    (d : Description) (last : ℕ) (line : List ℕ) (rest : List Line) (x : Account) (edited : Model) (kept : KeepsAll d last (Ok line ∷ rest) x)
    → IsAcceptedEdit d line edited → x.written ≢ kept.opening.text

-- whoever keeps the headline refuses an undo before any edit
abbrev pub FirstUndoIsRefused : Type 0
FirstUndoIsRefused =
    (d : Description) (last : ℕ) (line : List ℕ) (rest : List Line) (x : Account) (kept : KeepsAll d last (Ok line ∷ rest) x)
    → command_of line ≡ Ok commands.Undo
    → (behind : List ℕ) × (x.written ≡ kept.opening.text ++ (refusal_line NothingToUndo (last + 1) ++ behind))

-- and says of the work before any edit that nobody was taken back, and as many were sent on as steps were counted
abbrev pub FirstWorkIsOfTheOpening : Type 0
FirstWorkIsOfTheOpening =
    (d : Description) (last : ℕ) (line : List ℕ) (rest : List Line) (x : Account) (kept : KeepsAll d last (Ok line ∷ rest) x)
    → command_of line ≡ Ok commands.Work
    → (behind : List ℕ) × (x.written ≡ kept.opening.text ++ (work_text 0 kept.opening.steps ++ behind))

-- after a text it is said who is gone: by each moment as many as a state's plan brings out by its moves before moment p
pub record SaysWhoIsGone (s : State) (p : ℕ) (text : List ℕ) (x : Account) : Type 0 where
  pub gone : List ℕ
  pub counts : (k : ℕ) → k ≤ s.standing.model.horizon → slice_index gone k ≡ gone_by s.standing.model s.standing.plan p k
  pub last : ℕ
  pub last_gone : IsLastGone gone s.standing.model.horizon last
  pub behind : List ℕ
  pub next : x.written ≡ text ++ (gone_text p gone last ++ behind)

-- whoever keeps the headline of a replan carries its plan out by the first advance that names a moment of the building; nobody was gone before
abbrev pub FirstAdvanceIsCarriedOut : Type 0
FirstAdvanceIsCarriedOut =
    (d : Description) (last : ℕ) (line : List ℕ) (rest : List Line) (x : Account) (p : ℕ) (kept : KeepsReplan d last (Ok line ∷ rest) x)
    → IsTrue (asks_advance line) → asked_moment line ≡ Ok p → 1 ≤ p → p ≤ d.model.horizon
    → SaysWhoIsGone kept.opening.after.session p kept.opening.text x
