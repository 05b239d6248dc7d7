-- A repair that goes on: one part after another, and where nothing is left to do.
use Rattle.std.proofs.Common.{◌≡◌, ℕ, ◌+◌, ◌≤◌, Bool, false, ◌&&◌, ◌||◌, eqb, ltb, refl, ap, sym, subst, arith}
use Rattle.std.proofs.lemmas.Bool.Decides.{nat_tests}
use Rattle.evac_law.specs.declared.model.Model.{Model}
use Rattle.evac_law.specs.LabelTable.{LabelTable}
use Rattle.residual_net.specs.declared.place.Place.{Place}
use Rattle.residual_net.specs.declared.place.Place.TheVariants.{Arc, Hold, Supply}
use Rattle.residual_net.specs.declared.start.Kind.{Kind}
use Rattle.residual_net.specs.Change.{IsLimitSet}
use Rattle.residual_net.specs.Network.{IsNet, limit_at}
use Rattle.residual_net.specs.OfModel.{model_limit}
use Rattle.residual_net.specs.Site.{Site, IsPlace, same_place}
use Rattle.residual_net.specs.Start.{is_kind, row_of}
use Rattle.residual_net.proofs.Begin.{row_so_far}
use Rattle.flow_repair.specs.declared.repair.Repair.{Repair}
use Rattle.flow_repair.specs.declared.reshaped.Reshaped.{Reshaped}
use Rattle.flow_repair.specs.Opened.{IsLeastOpened}
use Rattle.flow_repair.specs.Refit.{IsRefitted}
use Rattle.flow_repair.specs.Repairing.{CanCancel, CanFit, RepairsOn, IsSameRepair, Refits}
use Rattle.flow_repair.proofs.Between.{still_fittable}
use Rattle.flow_repair.proofs.Refitting.{least_lowered, least_none, refitted_then, set_refitted, steps_then, still_cancellable}

pub same_then : {S : Type 0} {r s t : Repair S} → IsSameRepair r s → IsSameRepair s t → IsSameRepair r t
same_then h g = grind arith

-- while people are taken off, more can be
pub still_can_cancel : {S : Type 0} {r s : Repair S} {b : Place → Bool} → RepairsOn b r s → CanCancel r → CanCancel s
still_can_cancel {r} {s} h can = grind (arith, still_cancellable)

pub still_can_fit : {S : Type 0} {r s : Repair S} {b : Place → Bool} → Refits b r s → CanFit r → CanFit s
still_can_fit {r} {s} h can = grind (arith, still_fittable)

pub goes_then : {S : Type 0} {r s t : Repair S} {b c : Place → Bool} (d : Place → Bool) → RepairsOn b r s → RepairsOn c s t
    → ((p : Place) → IsPlace r.net.now.site p → d p ≡ (c p || b p)) → RepairsOn d r t
goes_then {r} {s} {t} {c} d h g or =
    let next : IsRefitted r.model.now r.labels.now s.net.now t.net.now c s.done t.done =
    subst (λ (m : Model). IsRefitted m r.labels.now s.net.now t.net.now c s.done t.done) h.same.model
    (subst (λ (l : LabelTable). IsRefitted s.model.now l s.net.now t.net.now c s.done t.done) h.same.labels g.refitted) in
    record { same = same_then h.same g.same; refitted = refitted_then d h.refitted next or; net = g.net; steps = steps_then h.steps g.steps }

pub refits_then : {S : Type 0} {r s t : Repair S} {b c : Place → Bool} (d : Place → Bool) → Refits b r s → Refits c s t
    → ((p : Place) → IsPlace r.net.now.site p → d p ≡ (c p || b p)) → Refits d r t
refits_then d h g or = record { goes_on = goes_then d h.goes_on g.goes_on or; within = g.within }

-- nothing is left to do
pub goes_none : {S : Type 0} (r : Repair S) (b : Place → Bool) → ((p : Place) → b p ≡ false) → IsNet r.net.now → RepairsOn b r r
goes_none r b none net = grind (arith, least_none)

-- the same places by another test
pub refits_by : {S : Type 0} {r s : Repair S} {b : Place → Bool} (d : Place → Bool) → Refits b r s → ((p : Place) → IsPlace r.net.now.site p → d p ≡ b p) → Refits d r s
refits_by {s} d h same = record { goes_on = goes_then d h.goes_on (goes_none s (λ _. false) (λ _. refl) h.goes_on.net) same; within = h.within }

-- the limit of a place is set to the model's
pub goes_on_set : {S : Type 0} {r s : Repair S} {p : Place} → IsSameRepair r s → IsLimitSet r.net.now s.net.now p (model_limit r.model.now p)
    → IsNet s.net.now → s.done.cancelled ≡ r.done.cancelled → s.steps.now ≡ r.steps.now
    → IsLeastOpened r.labels.now r.net.now s.net.now r.done.least_label s.done.least_label → RepairsOn (same_place p) r s
goes_on_set {r} {s} same set net done steps least = record {
  same = same;
  refitted = set_refitted r.model.now r.done s.done set done least;
  net = net;
  steps = record { counted = omega (arith, steps); ticked = omega (arith, steps, done) };
}

-- to one that is no higher, and then people are taken off through the place
pub goes_on_relieved : {S : Type 0} {r s t : Repair S} {p : Place} → RepairsOn (λ _. false) s t → IsSameRepair r s
    → IsLimitSet r.net.now s.net.now p (model_limit r.model.now p) → IsNet s.net.now → model_limit r.model.now p ≤ limit_at r.net.now p → s.done ≡ r.done → s.steps.now ≡ r.steps.now
    → RepairsOn (same_place p) r t
goes_on_relieved {r} {s} {p} after same set net low done steps =
    let least : IsLeastOpened r.labels.now r.net.now s.net.now r.done.least_label s.done.least_label =
    subst (λ (d : Reshaped). IsLeastOpened r.labels.now r.net.now s.net.now r.done.least_label d.least_label) (sym done)
    (least_lowered r.model.now r.labels.now r.done.least_label set low) in
    goes_then (same_place p) (goes_on_set same set net (ap (λ (d : Reshaped). d.cancelled) done) steps least) after (λ _ _. refl)

-- ---- the places of a row, and of the arcs before one

pub all_before : (b : Bool) (x n : ℕ) → x + 1 ≤ n → b ≡ (b && ltb x n)
all_before b x n l = grind (arith, nat_tests)

pub whole_row : (s : Site) (k : Kind) (n t : ℕ) (p : Place) → IsPlace s p → s.shape.horizon + 1 ≤ t → (is_kind k p && eqb (row_of p) n) ≡ row_so_far k n t p
whole_row s k n t (Arc a i) at l = all_before (is_kind k (Arc a i) && eqb a n) i t (omega (arith, at.1, l))
whole_row s k n t (Hold a i) at l = all_before (is_kind k (Hold a i) && eqb a n) i t (omega (arith, at.1, l))
whole_row s k n t (Supply a i) at l = all_before (is_kind k (Supply a i) && eqb a n) i t (omega (arith, at.1, l))
