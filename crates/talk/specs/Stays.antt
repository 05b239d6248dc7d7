-- A session that stands on its model as before.
use Rattle.std.specs.Prelude.{◌≡◌}
use Rattle.edit_session.specs.Sessions.{IsSolved, SessionState}

-- the model and the models before it are the same, and the plan is a best one; it may be another
pub record StaysSolved (s s' : SessionState) : Type 0 where
  pub model : s'.model ≡ s.model
  pub former : s'.former ≡ s.former
  pub solved : IsSolved s'
