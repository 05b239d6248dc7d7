use Rattle.std.proofs.Common.{◌∙◌, sym, subst}
use Rattle.evac_law.specs.Edits.{IsEditOf}
use Rattle.replan.proofs.Carried.{edit_keeps}
use Rattle.replan.specs.Replans.{ReplanView}
use Rattle.replan.proofs.replan.Replan.edit.Goals as goal

pub invariant_of-self : goal.invariant_of-self
invariant_of-self g c =
    let of_model = subst (λ (v : ReplanView). IsEditOf v.session.state.model c.args.edit) (sym c.self.view_is) c.requires in
    edit_keeps c.self.inside.session c.edit.new.self c.args.edit c.edit.result c.edit.ensures.ends.0
    of_model (sym c.is_committed.ensures ∙ c.if-is_committed.false) c.edit.ensures.ends.2 c.self.invariant
