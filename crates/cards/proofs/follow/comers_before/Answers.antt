use Rattle.std.proofs.Common.{◌+◌, ℕ, cond, ltb, ap, sym, ◌∙◌}
use Rattle.std.specs.List.{sum_by}
use Rattle.std.proofs.lemmas.List.{take_all}
use Rattle.evac_law.specs.declared.model.ArcRow.{ArcRow}
use Rattle.evac_law.specs.declared.model.Model.{Model}
use Rattle.evac_law.specs.Building.{head}
use Rattle.evac_law.specs.Plans.{came}
use Rattle.cards.specs.Numbers.{brought, count_before}
use Rattle.cards.proofs.Listed.{listed_comers}
use Rattle.cards.proofs.follow.comers_before.Goals as goal

pub returns-clause-number : goal.returns-clause-number
returns-clause-number c =
    let w = c.args.counts.now in
    let p = w.plan.moves in
    let n = c.arc.result.now.to in
    let f : ℕ → ℕ = λ b. cond (ltb b c.args.arc) (brought w.plan.model p b c.args.moment) 0 in
    let all = take_all c.loop-other.other-index c.arcs_to-other-items.result.now c.loop-other-test.false in
    let to = ap (λ (r : ArcRow). r.to) c.arc.ensures ∙ ap (λ (m : Model). head m c.args.arc) (c.model.ensures.same ∙ c.layout-layout.ensures) in
    c.loop-other.invariant.number
    ∙ ap (λ z. count_before (came w.plan.model p n) c.args.moment + z) (ap (sum_by f) all ∙ ap (sum_by f) c.loop-other.invariant.arcs)
    ∙ sym (listed_comers w.plan.model p n c.args.moment c.args.arc c.requires.arc_in (sym to))
