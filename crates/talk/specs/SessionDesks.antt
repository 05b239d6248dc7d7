-- What replies about a session are made in, and what a session does at a line.
use Rattle.std.specs.Prelude.{◌≡◌, ℕ, ◌+◌, ◌<◌, ◌≤◌, Result}
use Rattle.evac_law.specs.Edits.{applied}
use Rattle.evac_law.specs.declared.edit.Edit.{Edit}
use Rattle.evac_law.specs.declared.model.Model.{Model}
use Rattle.line_io.specs.declared.outside.Sink.{Ghosts}
use Rattle.line_io.specs.declared.writer.Writer.{Writer}
use Rattle.model_text.specs.declared.command.Report.{Report}
use Rattle.building_table.specs.Names.{NameTable, NamesFit}
use Rattle.edit_session.specs.Sessions.{EditEnds, SessionView, UndoEnds}
use Rattle.edit_session.specs.declared.faults.EditRefusal.{EditRefusal}
use Rattle.edit_session.specs.declared.faults.UndoRefusal.{UndoRefusal}
use Rattle.edit_session.specs.declared.work.Work.{Work}
use Rattle.plan_layout.specs.Layouts.{IsSameSite}
use Rattle.route_decompose.specs.Routes.{RoutesView}
use Rattle.session_text.specs.Laws.{IsOfBuilding}
use Rattle.session_text.specs.Spaces.{IsSpace, SpaceView}
use Rattle.talk.specs.Sessions.{Edits, Reports, State, Undoes}
use Rattle.talk.specs.Speaking.{PutsSome, Speaking, speaking}

-- a desk as contracts see it: the names of a building, the index of the block written last, and what routes and reports are made in
pub record DeskView : Type 0 where
  pub names : NameTable
  pub index : ℕ
  pub routes : RoutesView
  pub space : SpaceView

-- routes and reports on a model's plans can be made on a desk
pub record HasTables (m : Model) (d : DeskView) : Type 0 where
  pub routes : d.routes.model ≡ m
  pub space : IsSpace m d.names d.space

-- a desk serves a session: all on it is of one building, and so are the session's models
pub record IsDesk (d : DeskView) (v : SessionView) : Type 0 where
  pub building : Model
  pub of_building : IsOfBuilding building v.state
  pub names_fit : NamesFit d.names building
  pub site : IsSameSite building d.routes.model
  pub space : IsSpace building d.names d.space

-- only what routes and reports are made in may differ
pub record IsSameDesk (d d' : DeskView) : Type 0 where
  pub names : d'.names ≡ d.names
  pub index : d'.index ≡ d.index

-- where a session is whose replies are made on a desk
abbrev pub desk_state : DeskView → SessionView → State
desk_state d v = record { index = d.index; standing = v.state }

-- what is shown of a desk and a session
abbrev pub shown_of : {X : Type 0} → DeskView → SessionView → Writer X → ℕ → Speaking NameTable State X
shown_of d v writer steps = speaking d.names (desk_state d v) writer steps

-- a report on the plan that stands was put
abbrev pub PutsReport : {K : Type 0} → Ghosts K → Report → SessionView → DeskView → Writer K → DeskView → Writer K → Type 0
PutsReport g report v d w d' w' = (steps : ℕ) → PutsSome g (Reports d.names (desk_state d v) report) (shown_of d v w steps) (shown_of d' v w' steps)

-- what an edit came to was put, whatever session it was made in
abbrev pub PutsEdited : {K : Type 0} → Ghosts K → ℕ → Result Work EditRefusal → SessionView → DeskView → Writer K → DeskView → Writer K → Type 0
PutsEdited g line edited v' d w d' w' = (v : SessionView) (e : Edit) (n k : ℕ) → EditEnds v e edited v' n → d.index < line
    → PutsSome g (Edits line (desk_state d v) (applied v.state.model e)) (shown_of d v w k) (shown_of d' v' w' (k + n))

-- the same of an undo
abbrev pub PutsUndone : {K : Type 0} → Ghosts K → ℕ → Result Work UndoRefusal → SessionView → DeskView → Writer K → DeskView → Writer K → Type 0
PutsUndone g line undone v' d w d' w' = (v : SessionView) (n k : ℕ) → UndoEnds v undone v' n → d.index < line
    → PutsSome g (Undoes line (desk_state d v) v.state.former) (shown_of d v w k) (shown_of d' v' w' (k + n))

-- a session on a building keeps its names, and no more blocks are written than lines are answered
abbrev pub SessionReaches : NameTable → Model → ℕ → NameTable → State → Type 0
SessionReaches names m before kept s = (kept ≡ names) × (s.index ≤ before)
