-- What setting limits and cancelling comes to.
use Rattle.std.specs.Prelude.{◌≡◌, ℕ, ◌+◌, ◌-◌, ◌<◌, ◌≤◌, ◌⊎◌, Bool, if◌then◌else◌, Ok}
use Rattle.evac_law.specs.declared.edit.Edit.{Edit}
use Rattle.evac_law.specs.declared.model.Model.{Model}
use Rattle.evac_law.specs.Building.{IsValid}
use Rattle.evac_law.specs.Edits.{IsEditOf, applied}
use Rattle.evac_law.specs.LabelTable.{LabelTable}
use Rattle.residual_net.specs.declared.place.Place.{Place}
use Rattle.residual_net.specs.Limits.{supply_limit}
use Rattle.residual_net.specs.Network.{Network, IsNet, IsWithinLimits, arrived_by, flow_at, flow_out, limit_at}
use Rattle.residual_net.specs.OfModel.{IsNetOf, model_limit, site_of}
use Rattle.residual_net.specs.Site.{IsPlace, is_source, sum_places}
use Rattle.flow_repair.specs.declared.reshaped.Reshaped.{Reshaped}
use Rattle.flow_repair.specs.Opened.{IsLabelsOf, IsLeastOpened}

-- the people by whom the flow is above what a model allows, all places together
unfoldable pub overrun : Model → Network → ℕ
overrun m w = sum_places w.site (λ p. flow_at w p - model_limit m p)

-- at most one step for each person taken off
pub record IsStepPerPerson (before after : ℕ) (done now : Reshaped) : Type 0 where
  pub counted : before ≤ after
  pub ticked : after + done.cancelled ≤ before + now.cancelled

-- the limits at the places that pass a test become a model's, and flow is taken off along whole paths through places above them
pub record IsRefitted (m : Model) (l : LabelTable) (w v : Network) (b : Place → Bool) (before after : Reshaped) : Type 0 where
  pub site : v.site ≡ w.site
  pub saved : v.saved ≡ w.saved
  pub limits : (p : Place) → IsPlace w.site p → limit_at v p ≡ (if b p then model_limit m p else limit_at w p)
  pub flows : (p : Place) → IsPlace w.site p → flow_at v p ≤ flow_at w p
  pub more : before.cancelled ≤ after.cancelled
  pub sent : flow_out v is_source + after.cancelled ≡ flow_out w is_source + before.cancelled
  pub bounded : after.cancelled + overrun m v ≤ before.cancelled + overrun m w
  pub arrivals : (k : ℕ) → arrived_by w k + before.cancelled ≤ arrived_by v k + after.cancelled
  pub idle : after.cancelled ≡ before.cancelled → (p : Place) → IsPlace w.site p → flow_at v p ≡ flow_at w p
  pub least : IsLeastOpened l w v before.least_label after.least_label

-- each limit is that of a model or that of another valid model with the same network
pub record IsBetween (m : Model) (w : Network) : Type 0 where
  pub other : Model
  pub valid : IsValid other
  pub of_other : w.site ≡ site_of other
  pub of_model : w.site ≡ site_of m
  pub limits : (p : Place) → IsPlace w.site p → (limit_at w p ≡ model_limit other p) ⊎ (limit_at w p ≡ model_limit m p)

-- the model is what an edit makes of a valid model, and the net has the limits of that one
pub record IsEditOfNet (m : Model) (e : Edit) (w : Network) : Type 0 where
  pub before : Model
  pub inverse : Edit
  pub valid : IsValid before
  pub in_range : IsEditOf before e
  pub edited : applied before e ≡ Ok (m, inverse)
  pub of : IsNetOf before w

-- flow is conserved, the labels are the net's, a path has room for every way through it, and the count of those taken off cannot grow too large
pub record IsCancellable (w : Network) (l : LabelTable) (path_room : ℕ) (done : Reshaped) : Type 0 where
  pub net : IsNet w
  pub labels : IsLabelsOf w.site l
  pub room : w.site.shape.horizon + 2 ≤ path_room
  pub few : done.cancelled + flow_out w is_source ≤ supply_limit

-- the flow is within limits on the way to a valid model's, and people can be taken off
pub record IsFittable (m : Model) (w : Network) (l : LabelTable) (path_room : ℕ) (done : Reshaped) : Type 0 where
  pub valid : IsValid m
  pub between : IsBetween m w
  pub within : IsWithinLimits w
  pub cancellable : IsCancellable w l path_room done
