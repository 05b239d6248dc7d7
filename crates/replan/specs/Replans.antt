-- A replan as contracts see it: how it begins, goes on and is carried out up to a moment.
use Rattle.std.specs.Prelude.{◌≡◌, ℕ, ◌+◌, ◌≤◌, Bool, true, false, ◌&&◌, ◌||◌, ◌==◌, nat_lt, List, length, replicate, slice_index, IsTrue, IsFalse, Result, Ok, Err}
use Rattle.std.specs.List.{All}
use Rattle.evac_law.specs.declared.edit.Edit.{Edit}
use Rattle.evac_law.specs.declared.edit.Edit.TheVariants.{Shift, Enter, Leave}
use Rattle.evac_law.specs.declared.model.Model.{Model}
use Rattle.edit_session.specs.declared.faults.BeginFault.{BeginFault}
use Rattle.edit_session.specs.declared.faults.UndoRefusal.{UndoRefusal}
use Rattle.edit_session.specs.declared.work.Work.{Work}
use Rattle.edit_session.specs.Sessions.{BeginEnds, Begins, EditEnds, SessionView, UndoEnds, no_labels}
use Rattle.replan.specs.declared.faults.AdvanceFault.{AdvanceFault}
use Rattle.replan.specs.declared.faults.AdvanceFault.TheVariants.{BadMoment, Memory}
use Rattle.replan.specs.declared.faults.ReplanRefusal.{ReplanRefusal}
use Rattle.replan.specs.declared.faults.ReplanRefusal.TheVariants.{Committed, Edit as EditRefused}
use Rattle.replan.specs.Committed.{gone_by}
use Rattle.replan.specs.Rest.{rest}
use Rattle.replan.specs.RestLaws.{IsBestFrom}

-- a replan: the session that stands, the moment up to which plans were carried out, and who is out by each moment by what was carried out
pub record ReplanView : Type 0 where
  pub session : SessionView
  pub moment : ℕ
  pub gone : List ℕ

-- the people who are out by a moment by what was carried out
abbrev pub gone_at : ReplanView → ℕ → ℕ
gone_at v k = slice_index v.gone k

-- ---- the beginning

-- nobody is out by any moment of a model
abbrev pub nobody_gone : Model → List ℕ
nobody_gone m = replicate (m.horizon + 1) 0

abbrev pub ReplanBegins : Model → Result ReplanView BeginFault → ℕ → Type 0
ReplanBegins m (Ok v) steps = BeginEnds m (Ok v.session) steps × (v.moment ≡ 0) × (v.gone ≡ nobody_gone m)
ReplanBegins m (Err fault) steps = BeginEnds m (Err fault) steps

-- ---- carrying out

-- whether a plan can't be carried out up to a moment: to 0, past the horizon, or to before where it was carried out to
abbrev pub is_bad_moment : ℕ → ℕ → ℕ → Bool
is_bad_moment moment horizon last = (moment == 0) || (nat_lt horizon moment || nat_lt moment last)

-- the plan is carried out up to a moment, and what is left is planned from nothing
pub record IsAdvanced (v : ReplanView) (s : ℕ) (v' : ReplanView) : Type 0 where
  pub begins : Begins (rest v.session.state.model v.session.state.plan s) v'.session.state
  pub refused : v'.session.refused ≡ no_labels v'.session.state.model
  pub moment : v'.moment ≡ s
  pub size : length v'.gone ≡ length v.gone
  pub gone : (k : ℕ) → k ≤ v.session.state.model.horizon → gone_at v' k ≡ gone_at v k + gone_by v.session.state.model v.session.state.plan s k
  pub later : All (λ w. s ≤ w.moment) v'.session.state.plan
  pub best : IsBestFrom v.session.state.model v.session.state.plan s v'.session.state.plan

abbrev pub AdvanceEnds : ReplanView → ℕ → Result (Unit {0}) AdvanceFault → ReplanView → ℕ → Type 0
AdvanceEnds v s (Ok done) v' steps = IsFalse (is_bad_moment s v.session.state.model.horizon v.moment) × IsAdvanced v s v' × (steps ≡ v'.session.state.work.pushes)
AdvanceEnds v s (Err BadMoment) v' steps = IsTrue (is_bad_moment s v.session.state.model.horizon v.moment) × (v' ≡ v) × (steps ≡ 0)
AdvanceEnds v s (Err Memory) v' steps = IsFalse (is_bad_moment s v.session.state.model.horizon v.moment) × (v' ≡ v)

-- ---- edits and undos

-- whether an edit sets how many people are in the nodes
abbrev pub is_of_people : Edit → Bool
is_of_people (Shift a b p) = true
is_of_people (Enter n p) = true
is_of_people (Leave n p) = true
is_of_people _ = false

-- whether an edit comes too late: nobody is where they were at moment 0 any more
abbrev pub is_committed : ReplanView → Edit → Bool
is_committed v e = nat_lt 0 v.moment && is_of_people e

-- what was carried out is as before
pub record IsCarriedOutSame (v v' : ReplanView) : Type 0 where
  pub moment : v'.moment ≡ v.moment
  pub gone : v'.gone ≡ v.gone

abbrev pub ReplanEdits : ReplanView → Edit → Result Work ReplanRefusal → ReplanView → ℕ → Type 0
ReplanEdits v e (Ok work) v' steps =
    IsFalse (is_committed v e) × EditEnds v.session e (Ok work) v'.session steps × IsCarriedOutSame v v'
ReplanEdits v e (Err Committed) v' steps = IsTrue (is_committed v e) × (v' ≡ v) × (steps ≡ 0)
ReplanEdits v e (Err (EditRefused refusal)) v' steps =
    IsFalse (is_committed v e) × EditEnds v.session e (Err refusal) v'.session steps × IsCarriedOutSame v v'

abbrev pub ReplanUndoes : ReplanView → Result Work UndoRefusal → ReplanView → ℕ → Type 0
ReplanUndoes v result v' steps = UndoEnds v.session result v'.session steps × IsCarriedOutSame v v'
