use Rattle.std.proofs.Common.{◌≡◌, ◌+◌, ℕ, ap, sym, ◌∙◌, arith}
use Rattle.evac_law.specs.declared.model.Model.{Model}
use Rattle.evac_law.specs.Plans.{left}
use Rattle.evac_law.proofs.ValidLemmas.{horizon_small}
use Rattle.cards.proofs.Filling.{one_filled}
use Rattle.cards.proofs.Moments.{count_before-more}
use Rattle.cards.proofs.Numbers.{left_is}
use Rattle.cards.proofs.fill.fill_left_row.Goals as goal

pub overflow_add-moment-end : goal.overflow_add-moment-end
overflow_add-moment-end c = omega (arith, ap (λ (m : Model). m.horizon) c.model.ensures.same, horizon_small c.layout.result.now c.model.ensures.valid)

pub loop-moment-preserved : goal.loop-moment-preserved
loop-moment-preserved c =
    let p = c.args.plan.now in
    let n = c.args.node in
    let t = c.loop-moment.moment in
    let all = c.loop-moment.all in
    let here = c.loop-moment.invariant in
    let f : ℕ → ℕ = left p.model p.moves n in
    let more : all + c.leaving-all.result ≡ f t = omega (arith, here.all, c.leaving-all.ensures.leaving, left_is p.model p.moves n t) in
    record {
      filling = one_filled c.args.table.now c.loop-moment.table c.put.new.self n t (all + c.leaving-all.result) f here.filling c.put.ensures more;
      all = more ∙ sym (count_before-more f t);
      small = omega (arith, here.small, c.leaving-all.ensures.small);
    }
