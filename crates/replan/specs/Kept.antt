-- What is true of every replan: who is gone and who is left are few, in the session's model and in those that an undo leads back to.
use Rattle.std.specs.Prelude.{◌≡◌, ℕ, ◌+◌, ◌≤◌, List, ◌∷◌, length, slice_index}
use Rattle.std.specs.List.{All}
use Rattle.evac_law.specs.declared.model.Model.{Model}
use Rattle.evac_law.specs.Building.{people}
use Rattle.evac_law.specs.Limits.{people_limit}
use Rattle.edit_session.specs.Sessions.{IsSolved, SessionState}
use Rattle.replan.specs.Committed.{gone_by}
use Rattle.replan.specs.Replans.{ReplanView, gone_at}
use Rattle.replan.specs.Rest.{rest}

-- a model that a replan may come to: of its horizon, and once a plan was carried out with few enough people beside those who are gone
pub record IsReachable (horizon moment : ℕ) (gone : List ℕ) (m : Model) : Type 0 where
  pub horizon_same : m.horizon ≡ horizon
  pub few : 1 ≤ moment → (k : ℕ) → k ≤ horizon → slice_index gone k + people m ≤ people_limit

pub record IsReplan (s : SessionState) (moment : ℕ) (gone : List ℕ) : Type 0 where
  pub size : length gone ≡ s.model.horizon + 1
  pub none_gone : moment ≡ 0 → (k : ℕ) → k ≤ s.model.horizon → slice_index gone k ≡ 0
  pub models : All (IsReachable s.model.horizon moment gone) (s.model ∷ s.former)

-- what is left of the model once the plan is carried out up to a moment, and who is out by each moment then
pub record IsLeftAfter (v : ReplanView) (s : ℕ) (m : Model) (out : List ℕ) : Type 0 where
  pub before : IsReplan v.session.state v.moment v.gone
  pub solved : IsSolved v.session.state
  pub left : m ≡ rest v.session.state.model v.session.state.plan s
  pub size : length out ≡ length v.gone
  pub gone : (k : ℕ) → k ≤ v.session.state.model.horizon → slice_index out k ≡ gone_at v k + gone_by v.session.state.model v.session.state.plan s k
