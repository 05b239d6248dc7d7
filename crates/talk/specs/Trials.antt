-- A rate that is tried for an arc.
use Rattle.std.specs.Prelude.{◌<◌, ◌≤◌, length}
use Rattle.evac_law.specs.declared.model.Model.{Model}
use Rattle.evac_law.specs.Limits.{rate_limit}
use Rattle.talk.specs.declared.studies.trial.Trial.{Trial}

-- the arc, the rate and the moment are within the model's limits
pub record IsRateTrial (m : Model) (t : Trial) : Type 0 where
  pub arc : t.arc < length m.arcs
  pub rate : t.rate ≤ rate_limit
  pub by : t.by ≤ m.horizon
