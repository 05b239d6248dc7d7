use Rattle.std.proofs.Common.{◌≡◌, ◌≤◌, ◌<◌, ℕ, true, ap, subst, refl, arith, rules, ◌∙◌}
use Rattle.std.proofs.lemmas.Bool.{false_from_ne_true}
use Rattle.evac_law.specs.Building.{IsValid}
use Rattle.evac_law.specs.declared.model.Model.{Model}
use Rattle.residual_net.specs.declared.place.Place.{Place}
use Rattle.residual_net.specs.Change.{IsLimitSet}
use Rattle.residual_net.specs.Network.{Network, limit_at}
use Rattle.residual_net.specs.OfModel.{model_limit, site_of}
use Rattle.residual_net.specs.Site.{IsPlace, Site, is_barred}
use Rattle.residual_net.proofs.Begin.{barred_limit}
use Rattle.flow_repair.specs.Opened.{head_number}
use Rattle.residual_net.proofs.Kept.{out_same}
use Rattle.residual_net.proofs.Places.{place-same}
use Rattle.flow_repair.proofs.Between.{within_raised, within_relieved}
use Rattle.flow_repair.proofs.Refitting.{least_raised, still_cancellable}
use Rattle.flow_repair.proofs.Repairing.{goes_on_relieved, goes_on_set}
use Rattle.flow_repair.proofs.repair.Repair.fit_place.Goals as goal

-- a barred place of the net has the limit 0 in the model
barred_none : {m : Model} (w : Network) (p : Place) → IsValid m → w.site ≡ site_of m → IsPlace w.site p → is_barred w.site p ≡ true → model_limit m p ≡ 0
barred_none {m} w p valid site i b = grind (arith, barred_limit)

pub set_limit-requires-clause-open : goal.set_limit-requires-clause-open
set_limit-requires-clause-open g c = grind (arith, barred_none)

pub head_number-number-requires-clause-open : goal.head_number-number-requires-clause-open
head_number-number-requires-clause-open g c = grind (arith, false_from_ne_true, barred_none)

pub cancel_all-requires-clause-cancellable : goal.cancel_all-requires-clause-cancellable
cancel_all-requires-clause-cancellable g c = grind (arith, still_cancellable, out_same)

pub cancel_all-requires-clause-limit : goal.cancel_all-requires-clause-limit
cancel_all-requires-clause-limit g c = grind (arith, place-same)

pub returns-then-limit-old : goal.returns-then-limit-old
returns-then-limit-old g c =
    let r = c.args.self.now in
    let m = r.model.now in
    let l = r.labels.now in
    let w = r.net.now in
    let p = c.args.place in
    let set = subst (λ (x : ℕ). IsLimitSet w c.set_limit.new.self p x) c.limit_of-limit.ensures c.set_limit.ensures.set in
    let rose : limit_at w p < model_limit m p = omega (arith, c.limit-old.ensures, c.limit_of-limit.ensures, c.if-limit-old.true) in
    let number : c.head_number-number.result ≡ head_number l w.site p = c.head_number-number.ensures ∙ ap (λ (s : Site). head_number l s p) set.site in
    record {
      goes_on = goes_on_set (search rules) set c.set_limit.ensures.net refl refl
          (least_raised m l r.done.least_label c.head_number-number.result c.min-self.result set c.requires.place rose number c.min-self.ensures);
      within = within_raised c.requires.fittable.within set (omega (arith, rose));
    }

pub returns-else-limit-old : goal.returns-else-limit-old
returns-else-limit-old g c =
    let r = c.args.self.now in
    let p = c.args.place in
    let done = c.cancel_all.ensures in
    let set = subst (λ (x : ℕ). IsLimitSet r.net.now c.set_limit.new.self p x) c.limit_of-limit.ensures c.set_limit.ensures.set in
    let low : model_limit r.model.now p ≤ limit_at r.net.now p = omega (arith, c.limit-old.ensures, c.limit_of-limit.ensures, c.if-limit-old.false) in
    record {
      goes_on = goes_on_relieved done.goes_on (search rules) set c.set_limit.ensures.net low refl refl;
      within = within_relieved c.requires.fittable.within set done.goes_on.refitted done.fits;
    }
