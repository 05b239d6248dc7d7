-- A repair under way: what it may do, and what it leaves.
use Rattle.std.specs.Prelude.{◌≡◌, ◌<◌, Bool, false}
use Rattle.residual_net.specs.declared.place.Place.{Place}
use Rattle.residual_net.specs.Network.{IsNet, IsWithinLimits, excess_at, flow_at}
use Rattle.flow_repair.specs.declared.repair.Repair.{Repair}
use Rattle.flow_repair.specs.Refit.{IsCancellable, IsFittable, IsRefitted, IsStepPerPerson}

-- people can be taken off
abbrev pub CanCancel : {S : Type 0} → Repair S → Type 0
CanCancel r = IsCancellable r.net.now r.labels.now r.path.now.room r.done

-- and limits can be set
abbrev pub CanFit : {S : Type 0} → Repair S → Type 0
CanFit r = IsFittable r.model.now r.net.now r.labels.now r.path.now.room r.done

-- the repair goes on with the same model, labels and room, and on what it began with
pub record IsSameRepair {S : Type 0} (before after : Repair S) : Type 0 where
  pub model : after.model.now ≡ before.model.now
  pub labels : after.labels.now ≡ before.labels.now
  pub room : after.path.now.room ≡ before.path.now.room
  pub same_net : after.net.ghost_name ≡ before.net.ghost_name
  pub same_path : after.path.ghost_name ≡ before.path.ghost_name
  pub same_steps : after.steps.ghost_name ≡ before.steps.ghost_name

-- the limits at the places that pass a test become the model's, people are taken off along paths through places above them, and each taking is a step
pub record RepairsOn {S : Type 0} (b : Place → Bool) (before after : Repair S) : Type 0 where
  pub same : IsSameRepair before after
  pub refitted : IsRefitted before.model.now before.labels.now before.net.now after.net.now b before.done after.done
  pub net : IsNet after.net.now
  pub steps : IsStepPerPerson before.steps.now after.steps.now before.done after.done

-- somebody is taken off along a path through a place
pub record TakesOneOff {S : Type 0} (p : Place) (before after : Repair S) : Type 0 where
  pub goes_on : RepairsOn (λ _. false) before after
  pub less : flow_at after.net.now p < flow_at before.net.now p

-- people are taken off along paths through a place until it fits
pub record Relieves {S : Type 0} (p : Place) (before after : Repair S) : Type 0 where
  pub goes_on : RepairsOn (λ _. false) before after
  pub fits : excess_at after.net.now p ≡ 0

-- and until every place fits
pub record Refits {S : Type 0} (b : Place → Bool) (before after : Repair S) : Type 0 where
  pub goes_on : RepairsOn b before after
  pub within : IsWithinLimits after.net.now
