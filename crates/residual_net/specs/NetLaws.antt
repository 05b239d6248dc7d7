-- The laws on nets, their plans and cuts.
use Rattle.std.specs.Prelude.{◌≡◌, ℕ, ◌+◌, ◌<◌, ◌≤◌, ◌↔◌, if◌then◌else◌, nat_le, Bool, List, length, IsTrue, IsFalse}
use Rattle.evac_law.specs.declared.model.Model.{Model}
use Rattle.evac_law.specs.Building.{IsValid, entered_by, entry}
use Rattle.evac_law.specs.Certificates.{label_cut, IsTableOf}
use Rattle.evac_law.specs.Cuts.{Cut, cut_value}
use Rattle.evac_law.specs.LabelTable.{LabelTable, label_at}
use Rattle.evac_law.specs.Parts.{TakesPartOut}
use Rattle.evac_law.specs.Plans.{IsFeasible, out_by}
use Rattle.evac_law.specs.Stands.{Fits}
use Rattle.residual_net.specs.declared.place.PathStep.{PathStep}
use Rattle.residual_net.specs.declared.place.Place.{Place}
use Rattle.residual_net.specs.declared.place.Place.TheVariants.{Supply}
use Rattle.residual_net.specs.Limits.{supply_limit}
use Rattle.residual_net.specs.declared.end.End.{End}
use Rattle.residual_net.specs.Site.{IsPlace, door_by, is_source, start_of, stop_of}
use Rattle.residual_net.specs.Network.{Network, IsAllSent, IsNet, IsWithinLimits, arrived_by, flow_out, limit_at, residual_room}
use Rattle.residual_net.specs.Route.{IsAugmentingPath, IsPushable, IsPushed}
use Rattle.residual_net.specs.Change.{IsCancelled, IsFlowPath, supply_limits_with}
use Rattle.residual_net.specs.Closed.{IsClosed, reached}
use Rattle.residual_net.specs.OfModel.{IsNetOf, last_move, plan_of, site_of, stand_of}

-- the net's arrivals are those of its plan
abbrev pub ArrivedIsOut : Type 0
ArrivedIsOut = (m : Model) (w : Network) (k : ℕ) → IsValid m → IsNet w → IsNetOf m w → arrived_by w k ≡ out_by m (plan_of w) k

-- at no moment have more people arrived than a cut is worth there
abbrev pub ArrivedWithinCut : Type 0
ArrivedWithinCut =
    (m : Model) (w : Network) (x : Cut) (k : ℕ) → IsValid m → IsNet w → IsNetOf m w → IsWithinLimits w → k ≤ m.horizon → arrived_by w k ≤ cut_value m x k

-- whether a pair is labelled at most k
abbrev pub labelled : LabelTable → ℕ → ℕ → ℕ → Bool
labelled l k n t = nat_le (label_at l n t) k

-- where no residual step enters the pairs labelled at most k, as many have arrived by k as the cut of the others is worth
abbrev pub ClosedIsCut : Type 0
ClosedIsCut =
    (m : Model) (w : Network) (l : LabelTable) (k : ℕ) → IsValid m → IsNet w → IsNetOf m w → IsWithinLimits w → IsTableOf m l → k ≤ m.horizon
    → IsClosed w (labelled l k) k → arrived_by w k ≡ cut_value m (label_cut m l k) k

-- a closed set stays closed under a push along a path from the source or from an arrival later than the set's moment
abbrev pub ClosedSurvivesPush : Type 0
ClosedSurvivesPush =
    (w v : Network) (s : ℕ → ℕ → Bool) (i : ℕ) (path : List PathStep) (x : ℕ) → IsClosed w s i → 1 ≤ x → (p : IsPushable w path x)
    → IsPushed w v path x → IsFalse (reached s i p.0) → IsClosed v s i

-- a closed set and what a search adds to it are closed where each step with room that stops at something new starts within the two
abbrev pub ClosedGrows : Type 0
ClosedGrows =
    (w : Network) (s r : ℕ → ℕ → Bool) (i k : ℕ) → IsClosed w s i → i ≤ k → ((n t : ℕ) → IsTrue (s n t) → IsTrue (r n t))
    → ((y : PathStep) → IsPlace w.site y.place → 0 < residual_room w y → IsFalse (reached s i (stop_of w.site y))
    → IsTrue (reached r k (stop_of w.site y)) → IsTrue (reached r k (start_of w.site y)))
    → IsClosed w r k

-- a net that isn't Over and has everybody sent stands for its plan in its model
abbrev pub NetFits : Type 0
NetFits = (m : Model) (w : Network) → IsValid m → IsNet w → IsNetOf m w → IsWithinLimits w → IsAllSent w → Fits m (stand_of w)

-- and its plan is feasible there
abbrev pub NetIsFeasible : Type 0
NetIsFeasible =
    (m : Model) (w : Network) → IsValid m → IsNet w → IsNetOf m w → IsWithinLimits w → IsAllSent w → IsFeasible m (plan_of w) m.horizon

-- a push brings its people to the path's last moment, from the source or from a later arrival
abbrev pub PushMovesArrivals : Type 0
PushMovesArrivals =
    (w v : Network) (path : List PathStep) (x : ℕ) (e : End) (k : ℕ) → IsAugmentingPath w path x e k → IsPushed w v path x
    → (j : ℕ) → arrived_by v j + (if door_by j e then x else 0) ≡ arrived_by w j + (if nat_le k j then x else 0)

-- a cancel takes its people off those sent, and off those who have arrived by each moment from the path's last one on
abbrev pub CancelLowersArrivals : Type 0
CancelLowersArrivals =
    (w v : Network) (p : Place) (path : List PathStep) (x k : ℕ) → IsCancelled w v p path x → IsFlowPath w.site path k
    → ((j : ℕ) → arrived_by v j + (if nat_le k j then x else 0) ≡ arrived_by w j) × (flow_out v is_source + x ≡ flow_out w is_source)

-- everybody who comes in by the horizon arrives by then exactly where everybody is sent
abbrev pub SentIsArrived : Type 0
SentIsArrived =
    (m : Model) (w : Network) → IsNet w → IsNetOf m w → IsWithinLimits w → IsAllSent w ↔ (arrived_by w m.horizon ≡ entered_by m m.horizon)

-- supplies whose limits are each at most those of two models together may be sent
abbrev pub SuppliesBetween : Type 0
SuppliesBetween =
    (m n : Model) (w : Network) (p : Place) (x : ℕ) → IsValid m → IsValid n → w.site ≡ site_of m → length n.nodes ≡ length m.nodes
    → n.horizon ≡ m.horizon
    → ((k t : ℕ) → IsPlace w.site (Supply k t) → limit_at w (Supply k t) ≤ entry m k t + entry n k t)
    → ((k t : ℕ) → p ≡ Supply k t → x ≤ entry m k t + entry n k t) → supply_limits_with w p x ≤ supply_limit

-- everybody who ever arrives has arrived by a moment exactly where the last move arrives by then
abbrev pub LastIsArrival : Type 0
LastIsArrival =
    (w : Network) (k : ℕ) → IsNet w → (arrived_by w k ≡ arrived_by w w.site.shape.horizon) ↔ (last_move w.site (plan_of w) ≤ k)

-- no moment has more arrivals than a later one
abbrev pub ArrivedRises : Type 0
ArrivedRises = (w : Network) (j k : ℕ) → j ≤ k → arrived_by w j ≤ arrived_by w k

-- the plan of a net within its limits takes out whoever arrives, when the others aren't there
abbrev pub ArrivedGetOut : Type 0
ArrivedGetOut =
    (m : Model) (w : Network) → IsValid m → IsNet w → IsNetOf m w → IsWithinLimits w → TakesPartOut m (plan_of w) (arrived_by w m.horizon)
