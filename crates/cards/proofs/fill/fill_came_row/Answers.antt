use Rattle.std.proofs.Common.{◌≡◌, ◌+◌, ℕ, ap, sym, ◌∙◌, arith}
use Rattle.evac_law.specs.declared.model.Model.{Model}
use Rattle.evac_law.specs.Building.{entry}
use Rattle.evac_law.specs.Plans.{came}
use Rattle.evac_law.proofs.ValidLemmas.{horizon_small}
use Rattle.cards.proofs.Filling.{one_filled}
use Rattle.cards.proofs.Moments.{count_before-more}
use Rattle.cards.proofs.Numbers.{came_is}
use Rattle.cards.proofs.fill.fill_came_row.Goals as goal

pub overflow_add-moment-end : goal.overflow_add-moment-end
overflow_add-moment-end c = omega (arith, ap (λ (m : Model). m.horizon) c.model-model.ensures.same, horizon_small c.layout.result.now c.model-model.ensures.valid)

pub loop-moment-preserved : goal.loop-moment-preserved
loop-moment-preserved c =
    let p = c.args.plan.now in
    let n = c.args.node in
    let t = c.loop-moment.moment in
    let all = c.loop-moment.all in
    let here = c.loop-moment.invariant in
    let f : ℕ → ℕ = came p.model p.moves n in
    let same = ap (λ (m : Model). entry m n t) (c.model-model.ensures.same ∙ c.layout.ensures) in
    let more : all + (c.from.result + c.coming.result) ≡ f t = omega (arith, here.all, c.coming.ensures.coming, c.from.ensures, c.entry.ensures, same, came_is p.model p.moves n t) in
    record {
      filling = one_filled c.args.table.now c.loop-moment.table c.put.new.self n t (all + (c.from.result + c.coming.result)) f here.filling c.put.ensures more;
      all = more ∙ sym (count_before-more f t);
      small = omega (arith, here.small, c.coming.ensures.small, c.from.ensures, c.entry.type_inv);
    }
