-- What a run in the mode `drill` does: the summary of a best plan of a drill's building.
use Rattle.std.specs.Prelude.{◌≡◌, ℕ, [], Some}
use Rattle.evac_law.specs.Plans.{IsEarliest}
use Rattle.clearing_report.specs.Walks.{IsUncongested}
use Rattle.drill_building.specs.Drill.{drill_model}
use Rattle.drill_building.specs.Summary.{drill_text, figures_of}
use Rattle.edit_session.specs.Sessions.{Begins, SessionState}
use Rattle.evac_top.specs.Accounts.{Account, Ends}

-- a drill is answered by the summary of a plan that takes everybody out, with a cut for each period that is worth as many as are out by then; so
-- no feasible plan has more people out by any period
pub record IsDrilled (n : ℕ) (x : Account) : Type 0 where
  pub opening : SessionState
  pub begins : Begins (drill_model n) opening
  pub best : IsEarliest (drill_model n) opening.plan
  pub time : ℕ
  pub uncongested : IsUncongested (drill_model n) (Some time)
  pub ends : let m = drill_model n in Ends x 0 (drill_text n m (figures_of m opening.plan opening.last time)) opening.work.pushes

-- a drill reads nothing, and its building is planned
abbrev pub Drills : ℕ → Account → Type 0
Drills n x = (x.taken ≡ []) × IsDrilled n x
