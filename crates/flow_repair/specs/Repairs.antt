-- What a repair asks, and what it comes to.
use Rattle.std.specs.Prelude.{◌≡◌, ℕ, ◌+◌, ◌≤◌}
use Rattle.evac_law.specs.declared.edit.Edit.{Edit}
use Rattle.evac_law.specs.declared.model.Model.{Model}
use Rattle.evac_law.specs.Building.{IsValid}
use Rattle.evac_law.specs.LabelTable.{LabelTable}
use Rattle.evac_law.specs.Plans.{violation}
use Rattle.residual_net.specs.declared.place.Place.{Place}
use Rattle.residual_net.specs.Network.{Network, IsAllSent, IsNet, IsWithinLimits, arrived_by, flow_at, flow_out}
use Rattle.residual_net.specs.OfModel.{IsNetOf, last_move, plan_of}
use Rattle.residual_net.specs.Site.{IsPlace, is_source}
use Rattle.flow_repair.specs.Opened.{IsClosedBelow, IsLabelsOf, IsLeastOpened}
use Rattle.flow_repair.specs.Refit.{IsEditOfNet}

-- the net stands for a plan that takes everybody out of the model before an edit, its labels are closed up to the last arrival, and a path has room
-- for every way through it
pub record IsReshapable (m : Model) (e : Edit) (w : Network) (l : LabelTable) (path_room : ℕ) : Type 0 where
  pub edited : IsEditOfNet m e w
  pub within : IsWithinLimits w
  pub sent : IsAllSent w
  pub labels : IsLabelsOf w.site l
  pub closed : IsClosedBelow w l (last_move w.site (plan_of w) + 1)
  pub room : w.site.shape.horizon + 2 ≤ path_room

-- the net has come under a model's limits, its flow is conserved, and what was saved of it stays
pub record IsReshaped (m : Model) (w v : Network) : Type 0 where
  pub site : v.site ≡ w.site
  pub of : IsNetOf m v
  pub within : IsWithinLimits v
  pub net : IsNet v
  pub saved : v.saved ≡ w.saved

-- so many people are taken off: just so many fewer are sent, and no more than the edit breaks; no flow rises, no moment's arrivals fall by more, and
-- where nobody is taken off no flow changes
pub record IsTakenOff (m : Model) (w v : Network) (people : ℕ) : Type 0 where
  pub few : (b : Model) → IsValid b → IsNetOf b w → people ≤ violation b (plan_of w) m
  pub flows : (p : Place) → IsPlace w.site p → flow_at v p ≤ flow_at w p
  pub exact : flow_out v is_source + people ≡ flow_out w is_source
  pub arrivals : (k : ℕ) → arrived_by w k ≤ arrived_by v k + people
  pub idle : people ≡ 0 → (p : Place) → IsPlace w.site p → flow_at v p ≡ flow_at w p

-- the labels stand below a number: the least of what came open and of the moment after the last arrival before
pub record IsStandingBelow (l : LabelTable) (w v : Network) (number : ℕ) : Type 0 where
  pub least : IsLeastOpened l w v (last_move w.site (plan_of w) + 1) number
  pub closed : IsClosedBelow v l number

-- at most one step for each of the people who are taken off
pub record IsSteppedFor (people before after : ℕ) : Type 0 where
  pub counted : before ≤ after
  pub ticked : after ≤ before + people
