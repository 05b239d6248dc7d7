-- Limits on the way from one model to another.
use Rattle.std.proofs.Common.{◌≡◌, ℕ, ◌≤◌, Bool, true, false, cond, ◌⊎◌, ap, sym, ◌∙◌, arith, inl, inr, subst}
use Rattle.std.proofs.lemmas.Bool.{cases_Bool}
use Rattle.evac_law.specs.declared.model.Model.{Model}
use Rattle.evac_law.specs.Building.{IsValid, entry}
use Rattle.evac_law.specs.LabelTable.{LabelTable}
use Rattle.residual_net.specs.declared.place.Place.{Place}
use Rattle.residual_net.specs.declared.place.Place.TheVariants.{Supply}
use Rattle.residual_net.specs.Limits.{supply_limit}
use Rattle.residual_net.specs.Site.{Site, IsPlace, same_place}
use Rattle.residual_net.specs.Network.{Network, IsNet, IsWithinLimits, excess_at, flow_at, limit_at}
use Rattle.residual_net.specs.Change.{IsLimitSet, supply_limits_with}
use Rattle.residual_net.specs.OfModel.{model_limit, site_of}
use Rattle.residual_net.proofs.Effects.{supplies_between}
use Rattle.residual_net.proofs.Places.{same-place}
use Rattle.flow_repair.specs.declared.reshaped.Reshaped.{Reshaped}
use Rattle.flow_repair.specs.Refit.{IsBetween, IsFittable, IsRefitted}
use Rattle.flow_repair.proofs.Refitting.{still_cancellable}

-- the supplies fit, whichever of the two models gives each its limit
pub supplies_fit : (m : Model) (w : Network) (p : Place) (x : ℕ) → IsValid m → IsBetween m w → IsPlace w.site p → x ≡ model_limit m p
    → supply_limits_with w p x ≤ supply_limit
supplies_fit m w p x valid b i e =
    let same : site_of b.other ≡ site_of m = sym b.of_other ∙ b.of_model in
    supplies_between b.other m w p x b.valid valid b.of_other (ap (λ (s : Site). s.shape.nodes) (sym same)) (ap (λ (s : Site). s.shape.horizon) (sym same))
    (λ k t j. elim (b.limits (Supply k t) j) [ inl old ↦ omega (arith, old) | inr new ↦ omega (arith, new) ])
    (λ k t h. let at : x ≡ entry m k t = e ∙ ap (model_limit m) h in omega (arith, at))

set_or_kept : (b : Bool) (x old other new : ℕ) → new ≡ cond b x old → (old ≡ other) ⊎ (old ≡ x) → (new ≡ other) ⊎ (new ≡ x)
set_or_kept b x old other new e o = grind arith

-- limits between two models stay so
pub still_between : {m : Model} {l : LabelTable} {w v : Network} {b : Place → Bool} {r s : Reshaped} → IsBetween m w → IsRefitted m l w v b r s → IsBetween m v
still_between {m} {w} {v} {b} h g = record {
  other = h.other;
  valid = h.valid;
  of_other = g.site ∙ h.of_other;
  of_model = g.site ∙ h.of_model;
  limits = λ p i.
      let at : IsPlace w.site p = subst (λ (z : Site). IsPlace z p) g.site i in
      set_or_kept (b p) (model_limit m p) (limit_at w p) (model_limit h.other p) (limit_at v p) (g.limits p at) (h.limits p at);
}

pub still_fittable : {m : Model} {l : LabelTable} {w v : Network} {b : Place → Bool} {x : ℕ} (y : ℕ) {r s : Reshaped} → IsRefitted m l w v b r s
    → IsWithinLimits v → IsNet v → y ≡ x → IsFittable m w l x r → IsFittable m v l y s
still_fittable {v} y {s} g within net same h = grind (arith, still_cancellable)

-- ---- within limits again

raised : (b : Bool) (x here old new f g : ℕ) → new ≡ cond b x old → (b ≡ true → here ≡ old) → here ≤ x → f ≤ old → g ≡ f → g ≤ new
raised b x here old new f g e same more within kept = grind arith

pub within_raised : {w v : Network} {p : Place} {x : ℕ} → IsWithinLimits w → IsLimitSet w v p x → limit_at w p ≤ x → IsWithinLimits v
within_raised {w} {v} {p} {x} within set more q i =
    let at : IsPlace w.site q = subst (λ (z : Site). IsPlace z q) set.site i in
    raised (same_place p q) x (limit_at w p) (limit_at w q) (limit_at v q) (flow_at w q) (flow_at v q) (set.limits q at)
    (λ e. ap (limit_at w) (same-place p q e)) more (within q at) (set.flows q at)

pub within_relieved : {m : Model} {l : LabelTable} {w v u : Network} {p : Place} {x : ℕ} {r s : Reshaped} → IsWithinLimits w → IsLimitSet w v p x
    → IsRefitted m l v u (λ _. false) r s → excess_at u p ≡ 0 → IsWithinLimits u
within_relieved {w} {v} {u} {p} {x} within set less fits q i = elim (cases_Bool (same_place p q)) [
  | inl e ↦
      let here : excess_at u q ≡ 0 = subst (λ z. excess_at u z ≡ 0) (same-place p q e) fits in
      omega (arith, here)
  | inr e ↦
      let kept : limit_at v q ≡ limit_at w q = set.limits q at_w ∙ ap (λ b. cond b x (limit_at w q)) e in
      omega (arith, kept, within q at_w, set.flows q at_w, less.flows q at, less.limits q at)
]
  where
    at : IsPlace v.site q
    at = subst (λ (z : Site). IsPlace z q) less.site i

    at_w : IsPlace w.site q
    at_w = subst (λ (z : Site). IsPlace z q) set.site at
