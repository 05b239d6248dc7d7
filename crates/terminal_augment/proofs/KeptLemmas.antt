-- Nets whose limits are those of another.
use Rattle.std.proofs.Common.{◌≡◌, ℕ, ◌+◌, ◌-◌, ◌<◌, ◌≤◌, sym, ◌∙◌, refl, arith}
use Rattle.evac_law.specs.declared.model.Model.{Model}
use Rattle.residual_net.specs.Network.{Network, IsAllSent, IsNet, IsWithinLimits, arrived_by, supply_limits}
use Rattle.residual_net.specs.OfModel.{IsNetOf, last_move, plan_of}
use Rattle.residual_net.proofs.LastArrival.{arrived_by_last, arrived_rises, last_by_arrived}
use Rattle.residual_net.proofs.Places.{sum_places-same}
use Rattle.residual_net.proofs.SentLemmas.{arrived_sent, few_arrive, sent_arrive}
use Rattle.terminal_augment.specs.Settled.{KeepsLimits}

pub limits_stay : (w : Network) → KeepsLimits w w
limits_stay w = record { site = refl; saved = refl; limits = λ p i. refl }

pub limits_then : (w v u : Network) → KeepsLimits w v → KeepsLimits v u → KeepsLimits w u
limits_then w v u p q = grind arith

pub net_of_kept : (m : Model) (w v : Network) → KeepsLimits w v → IsNetOf m w → IsNetOf m v
net_of_kept m w v kept of = grind arith

pub supplies_kept : {w v : Network} → KeepsLimits w v → supply_limits v ≡ supply_limits w
unfolding supply_limits
supplies_kept {w} {v} kept = grind (arith, sum_places-same)

-- where the arrivals before a moment are the same, and everybody is sent and arrives before it in the later net, so it is in the earlier one
pub over_before : (w v : Network) (k : ℕ) → KeepsLimits w v → IsNet w → IsWithinLimits w → IsNet v → IsWithinLimits v
    → ((i : ℕ) → i < k → arrived_by v i ≡ arrived_by w i) → k ≤ w.site.shape.horizon + 1 → IsAllSent v → last_move v.site (plan_of v) < k
    → IsAllSent w × (last_move w.site (plan_of w) < k)
over_before w v k kept net within net_v within_v earlier late sent before =
    let by_last = arrived_by_last v net_v (k - 1) (omega (arith, before)) in
    let by_then : arrived_by w (k - 1) ≡ supply_limits w =
    sym (earlier (k - 1) (omega (arith, before))) ∙ by_last ∙ sent_arrive v net_v within_v sent ∙ supplies_kept kept in
    let rises = arrived_rises w (k - 1) w.site.shape.horizon (omega (arith, late)) in
    let everybody : arrived_by w w.site.shape.horizon ≡ supply_limits w = omega (arith, by_then, rises, few_arrive w net within) in
    (arrived_sent w net within everybody, omega (arith, before, last_by_arrived w net (k - 1) (by_then ∙ sym everybody)))
