-- Everybody is sent exactly where as many arrive as the supplies allow.
use Rattle.std.proofs.Common.{◌+◌, ◌<◌, ◌⊎◌, ap, false, subst, sym, true, ◌≡◌, ℕ, ◌≤◌, ◌↔◌, IsTrue, cond, nat_eq, refl, ◌∙◌, arith, inl, inr}
use Rattle.std.proofs.lemmas.Bool.{cases_Bool, cases_lt, eq-eqb, eqb-true}
use Rattle.residual_net.specs.declared.place.Place.{Place}
use Rattle.residual_net.specs.declared.place.Place.TheVariants.{Supply}
use Rattle.residual_net.specs.Network.{Network, IsAllSent, IsNet, IsWithinLimits, arrived_by, flow_at, flow_out, limit_at, supply_limits}
use Rattle.residual_net.specs.Site.{IsPlace, Site, is_source, same_place, tail_of}
use Rattle.residual_net.specs.OfModel.{IsNetOf}
use Rattle.evac_law.specs.declared.model.Model.{Model}
use Rattle.evac_law.specs.Building.{IsValid, entered_by, people}
use Rattle.evac_law.proofs.Entries.{entered_all}
use Rattle.residual_net.proofs.Begin.{supplies_enter}
use Rattle.residual_net.proofs.LastArrival.{all_arrive}
use Rattle.evac_law.proofs.SumLemmas.{cond_mono}
use Rattle.residual_net.proofs.Places.{same-place, sum_places-le, sum_places-pick, sum_places-same, sum_places-split}
use Rattle.residual_net.proofs.Steps.{sent_fits}

-- an unsent person is missing from the sum
one_missing : (w : Network) → IsWithinLimits w → (n t : ℕ) → IsPlace w.site (Supply n t) → flow_at w (Supply n t) < limit_at w (Supply n t)
    → flow_out w is_source + 1 ≤ supply_limits w
unfolding flow_out supply_limits
one_missing w within n t i less =
    let q = Supply n t in
    let b = λ (p : Place). is_source (tail_of w.site p) in
    let split = sum_places-split w.site b (λ p. flow_at w p) (λ p. cond (same_place q p) 1 0) in
    let one = sum_places-pick w.site q i b 1 in
    let le = sum_places-le w.site (λ p. cond (b p) (flow_at w p + cond (same_place q p) 1 0) 0) (λ p. cond (b p) (limit_at w p) 0)
    (λ p j. cond_mono (b p) (flow_at w p + cond (same_place q p) 1 0) (limit_at w p) (λ _. at_place p j (cases_Bool (same_place q p)))) in
    omega (arith, split, one, le)
  where
    at_place : (p : Place) → IsPlace w.site p → (same_place (Supply n t) p ≡ true) ⊎ (same_place (Supply n t) p ≡ false)
        → flow_at w p + cond (same_place (Supply n t) p) 1 0 ≤ limit_at w p
    at_place p j (inl e) =
        let same = same-place (Supply n t) p e in
        let here : flow_at w p < limit_at w p = subst (λ z. flow_at w z < limit_at w z) same less in
        rw e (omega (arith, here))
    at_place p j (inr e) = rw e (omega (arith, within p j))

pub arrived_is_sent : (w : Network) → IsNet w → arrived_by w w.site.shape.horizon ≡ flow_out w is_source
arrived_is_sent w net = all_arrive w net ∙ net.conserved.sent

pub few_arrive : (w : Network) → IsNet w → IsWithinLimits w → arrived_by w w.site.shape.horizon ≤ supply_limits w
few_arrive w net within = omega (arith, arrived_is_sent w net, sent_fits w within)

pub sent_arrive : (w : Network) → IsNet w → IsWithinLimits w → IsAllSent w → arrived_by w w.site.shape.horizon ≡ supply_limits w
unfolding flow_out supply_limits
sent_arrive w net within all =
    let same : flow_out w is_source ≡ supply_limits w = sum_places-same w.site _ _ at_place in
    arrived_is_sent w net ∙ same
  where
    at_place : (p : Place) → IsPlace w.site p → cond (is_source (tail_of w.site p)) (flow_at w p) 0 ≡ cond (is_source (tail_of w.site p)) (limit_at w p) 0
    at_place (Supply n t) i = omega (arith, within (Supply n t) i, all n t i)
    at_place _ i = refl

pub arrived_sent : (w : Network) → IsNet w → IsWithinLimits w → arrived_by w w.site.shape.horizon ≡ supply_limits w → IsAllSent w
arrived_sent w net within e n t i = grind (arith, cases_lt, one_missing, arrived_is_sent)

-- everybody is sent where the arrivals are as many as the supplies
pub sent_counted : (w : Network) → IsNet w → IsWithinLimits w → (arrived supplies : ℕ) → arrived ≡ arrived_by w w.site.shape.horizon → supplies ≡ supply_limits w
    → IsTrue (nat_eq arrived supplies) ↔ IsAllSent w
sent_counted w net within arrived supplies e f = grind (arith, arrived_sent, eqb-true, eq-eqb, sent_arrive)

-- ---- of a model

-- those who come in by the horizon arrive by then where everybody is sent, and only there
pub sent_enter : (m : Model) (w : Network) → IsNet w → IsNetOf m w → IsWithinLimits w → IsAllSent w → arrived_by w m.horizon ≡ entered_by m m.horizon
sent_enter m w net of within all = grind (arith, sent_arrive, supplies_enter)

pub entered_sent : (m : Model) (w : Network) → IsNet w → IsNetOf m w → IsWithinLimits w → arrived_by w m.horizon ≡ entered_by m m.horizon → IsAllSent w
entered_sent m w net of within e =
    arrived_sent w net within (ap (λ (s : Site). arrived_by w s.shape.horizon) of.site ∙ e ∙ sym (supplies_enter m w of))

-- in a valid model those are all people
pub all_sent_arrive : (m : Model) (w : Network) → IsValid m → IsNet w → IsNetOf m w → IsWithinLimits w → IsAllSent w → arrived_by w m.horizon ≡ people m
all_sent_arrive m w valid net of within all = sent_enter m w net of within all ∙ entered_all m valid

pub arrived_all_sent : (m : Model) (w : Network) → IsValid m → IsNet w → IsNetOf m w → IsWithinLimits w → arrived_by w m.horizon ≡ people m → IsAllSent w
arrived_all_sent m w valid net of within e = entered_sent m w net of within (e ∙ sym (entered_all m valid))
