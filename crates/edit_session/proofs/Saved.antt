-- A net with its flow and limits saved is the same net.
use Rattle.std.proofs.Common.{◌≡◌, ℕ, ◌+◌, ◌≤◌, refl}
use Rattle.evac_law.specs.declared.edit.Edit.{Edit}
use Rattle.evac_law.specs.declared.model.Model.{Model}
use Rattle.evac_law.specs.LabelTable.{LabelTable}
use Rattle.residual_net.specs.declared.place.Place.{Place}
use Rattle.residual_net.specs.Network.{Network, IsAllSent, IsWithinLimits, arrived_by, flow_at, flow_into, flow_out, limit_at, with_saved}
use Rattle.residual_net.specs.OfModel.{IsNetOf, plan_of}
use Rattle.residual_net.specs.Labelled.{IsClosedBelow}
use Rattle.residual_net.specs.Site.{is_source}
use Rattle.flow_repair.specs.Refit.{IsEditOfNet}
use Rattle.flow_repair.specs.Repairs.{IsReshapable}
use Rattle.edit_session.specs.Mended.{IsRepairable, last_arrival_of}

pub of_saved : {m : Model} {w : Network} → IsNetOf m w → IsNetOf m (with_saved w)
unfolding limit_at
of_saved h = record { site = h.site; limits = h.limits }

pub edit_saved : {m : Model} {e : Edit} {w : Network} {l : LabelTable} → IsRepairable m e w l → IsEditOfNet m e (with_saved w)
edit_saved h = record {
  before = h.before;
  inverse = h.inverse;
  valid = h.standing.valid;
  in_range = h.in_range;
  edited = h.edited;
  of = of_saved h.standing.of;
}

within_saved : (w : Network) → IsWithinLimits w → IsWithinLimits (with_saved w)
unfolding flow_at limit_at
within_saved w h = h

sent_saved : (w : Network) → IsAllSent w → IsAllSent (with_saved w)
unfolding flow_at limit_at
sent_saved w h = h

pub plan_saved : (w : Network) → plan_of (with_saved w) ≡ plan_of w
unfolding flow_at
plan_saved w = refl

pub arrived_saved : (w : Network) (k : ℕ) → arrived_by (with_saved w) k ≡ arrived_by w k
unfolding flow_into flow_at
arrived_saved w k = refl

closed_saved : (w : Network) (l : LabelTable) → IsClosedBelow w l (last_arrival_of w + 1) → IsClosedBelow (with_saved w) l (last_arrival_of (with_saved w) + 1)
unfolding flow_at limit_at
closed_saved w l h = h

pub sources_saved : (w : Network) → flow_out (with_saved w) is_source ≡ flow_out w is_source
unfolding flow_out flow_at
sources_saved w = refl

-- a saved net may be reshaped
pub reshapable_saved : {m : Model} {e : Edit} {w : Network} {l : LabelTable} (path_room : ℕ) → IsRepairable m e w l → w.site.shape.horizon + 2 ≤ path_room
    → IsReshapable m e (with_saved w) l path_room
reshapable_saved {w} {l} path_room h room = record {
  edited = edit_saved h;
  within = within_saved w h.standing.within;
  sent = sent_saved w h.standing.sent;
  labels = h.standing.labels;
  closed = closed_saved w l h.standing.closed;
  room = room;
}

pub flow_saved : (w : Network) (p : Place) → flow_at (with_saved w) p ≡ flow_at w p
unfolding flow_at
flow_saved w p = refl
