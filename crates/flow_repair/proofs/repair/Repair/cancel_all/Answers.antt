use Rattle.std.proofs.Common.{ap, subst, sym, refl, false, ◌∙◌}
use Rattle.evac_law.specs.declared.model.Model.{Model}
use Rattle.residual_net.specs.OfModel.{model_limit}
use Rattle.residual_net.specs.Site.{Site, IsPlace}
use Rattle.flow_repair.proofs.Repairing.{goes_then}
use Rattle.flow_repair.proofs.repair.Repair.cancel_all.Goals as goal

pub loop-place-preserved : goal.loop-place-preserved
loop-place-preserved g c =
    let old = c.loop-place.invariant in
    let now = c.cancel_one.ensures.goes_on in
    record {
      goes_on = goes_then (λ _. false) old.goes_on now (λ _ _. refl);
      place = subst (λ (s : Site). IsPlace s c.args.place) (sym now.refitted.site) old.place;
      limit = now.refitted.limits c.args.place old.place ∙ old.limit ∙ ap (λ (m : Model). model_limit m c.args.place) (sym now.same.model);
    }
