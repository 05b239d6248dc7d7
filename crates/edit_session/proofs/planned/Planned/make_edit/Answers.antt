use Rattle.std.proofs.Common.{◌≡◌, ◌-◌, ◌∙◌, ap, arith, subst, sym, Ok, Err, IfOk, IfErr}
use Rattle.evac_law.specs.declared.model.Model.{Model}
use Rattle.evac_law.specs.Building.{people}
use Rattle.evac_law.specs.Edits.{applied}
use Rattle.evac_law.specs.LabelTable.{LabelTable}
use Rattle.edit_session.specs.Mended.{IsRefused}
use Rattle.edit_session.proofs.Going.{made, scratch_with}
use Rattle.edit_session.proofs.planned.Planned.make_edit.Goals as goal

pub returns-in-Cleared-clause-made : goal.returns-in-Cleared-clause-made
returns-in-Cleared-clause-made g c =
    let done = c.in-Cleared.ensures in
    let steps = c.repair.new.steps - c.args.steps.now in (
      steps,
      omega (arith, done.counted.0),
      rw done.model (c.in-Ok.ensures.ok, done.mended, done.refused, done.counted.1),
    )

pub returns-in-Cleared-clause-refused : goal.returns-in-Cleared-clause-refused
returns-in-Cleared-clause-refused g c = grind arith

pub returns-in-Short-clause-made : goal.returns-in-Short-clause-made
returns-in-Short-clause-made g c =
    let b = c.args.self.now.model in
    let w = c.args.self.now.net in
    let m' = c.apply.new.model in
    let done = c.in-Short.ensures in
    let v = c.repair.new.self.net in
    let again = c.apply-in-Short in
    let ok = subst (λ (z : Model). IfOk again.result (λ i. applied z c.in-Ok.inverse ≡ Ok (again.new.model, i))) done.model again.ensures.ok in
    let fault = subst (λ (z : Model). IfErr again.result (λ f. applied z c.in-Ok.inverse ≡ Err f)) done.model again.ensures.fault in
    let steps = c.repair.new.steps - c.args.steps.now in (
      steps,
      omega (arith, done.counted.0),
      record {
        edited = m';
        inverse = c.in-Ok.inverse;
        accepted = c.in-Ok.ensures.ok;
        valid = c.in-Ok.ensures.valid;
        back = made m' b again.new.model c.in-Ok.inverse c.args.edit again.result c.in-Ok.ensures.undoes.1 ok fault;
        refused = subst (λ (k : LabelTable). IsRefused m' w v k c.in-Short.most) (sym c.swap.ensures.x_after) done.mended;
        count = c.people-people.ensures ∙ ap people done.model;
        spent = done.counted.1 b c.requires.standing.valid c.requires.standing.of;
      },
    )

pub returns-in-Short-clause-refused : goal.returns-in-Short-clause-refused
returns-in-Short-clause-refused g c = grind arith

pub returns-in-Short-clause-scratch : goal.returns-in-Short-clause-scratch
returns-in-Short-clause-scratch g c = grind (arith, scratch_with)
