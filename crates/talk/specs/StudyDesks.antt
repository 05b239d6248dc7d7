-- What a study works with.
use Rattle.std.specs.Prelude.{◌≡◌, ℕ, nat_lt, [], Result, Ok, Err}
use Rattle.evac_law.specs.declared.model.Model.{Model}
use Rattle.line_io.specs.declared.outside.Sink.{Ghosts}
use Rattle.line_io.specs.declared.writer.Writer.{Writer}
use Rattle.building_table.specs.Names.{NameTable, NamesFit}
use Rattle.edit_session.specs.declared.faults.BeginFault.{BeginFault}
use Rattle.edit_session.specs.Sessions.{BeginEnds, SessionView}
use Rattle.talk.specs.Speaking.{PutsSome, Speaking, speaking}
use Rattle.talk.specs.Studies.{LeastReply}

-- a desk of a study as contracts see it: the names of a building, and a session on its model
pub record StudyView : Type 0 where
  pub names : NameTable
  pub session : SessionView

-- the names are those of the session's model, and no edit is kept
pub record IsStudyDesk (names : NameTable) (session : SessionView) : Type 0 where
  pub names_fit : NamesFit names session.state.model
  pub none_kept : session.state.former ≡ []

-- a study begins with a building's model, on which no edit is kept; or the model can't be cleared
abbrev pub StudyBegins : NameTable → Model → Result StudyView BeginFault → ℕ → Type 0
StudyBegins names m (Ok d) steps = (d.names ≡ names) × BeginEnds m (Ok d.session) steps
StudyBegins names m (Err fault) steps = BeginEnds m (Err fault) steps

-- what no line changes
abbrev pub Kept : Type 0
Kept = NameTable × Model

abbrev pub kept_of : StudyView → Kept
kept_of d = (d.names, d.session.state.model)

-- what is shown of a desk
abbrev pub shown_study : {X : Type 0} → StudyView → Writer X → ℕ → Speaking Kept (Unit {0}) X
shown_study d writer steps = speaking (kept_of d) tt writer steps

-- the least rate of an arc for a moment was put, if there is that moment
abbrev pub PutsLeast : {K : Type 0} → Ghosts K → ℕ → ℕ → ℕ → StudyView → Writer K → ℕ → StudyView → Writer K → ℕ → Type 0
PutsLeast g line a k d w n d' w' n' =
    let m = d.session.state.model in PutsSome g (LeastReply m line a k (nat_lt m.horizon k)) (shown_study d w n) (shown_study d' w' n')

-- a study keeps its building
abbrev pub StudyReaches : NameTable → Model → ℕ → Kept → Unit {0} → Type 0
StudyReaches names m before kept s = kept ≡ (names, m)
