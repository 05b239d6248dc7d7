use Rattle.std.proofs.Common.{◌≡◌, ◌+◌, ap, ◌∙◌, arith}
use Rattle.evac_law.specs.declared.model.ArcRow.{ArcRow}
use Rattle.evac_law.specs.declared.model.Model.{Model}
use Rattle.evac_law.specs.Building.{arc_at, arrival, head}
use Rattle.evac_law.proofs.ValidLemmas.{horizon_small}
use Rattle.cards.specs.Numbers.{comers_before}
use Rattle.cards.proofs.Following.{comes_next, leaver_arrives}
use Rattle.cards.proofs.follow.comer_of.Goals as goal

pub overflow_add-moment : goal.overflow_add-moment
overflow_add-moment c =
    let p = c.args.counts.now.plan in
    let takes = c.requires.counts.takes in
    let travel = ap (λ (r : ArcRow). r.travel) c.arc-row.ensures ∙ ap (λ (m : Model). (arc_at m c.args.leaver.step.arc).travel) (c.model.ensures.same ∙ c.layout.ensures) in
    omega (arith, travel, leaver_arrives p.model p.moves takes c.args.comer c.args.leaver c.requires.leaver, horizon_small p.model takes.valid)

pub comers_before-first-requires-clause-moment_in : goal.comers_before-first-requires-clause-moment_in
comers_before-first-requires-clause-moment_in c =
    let p = c.args.counts.now.plan in
    let travel = ap (λ (r : ArcRow). r.travel) c.arc-row.ensures ∙ ap (λ (m : Model). (arc_at m c.args.leaver.step.arc).travel) (c.model.ensures.same ∙ c.layout.ensures) in
    omega (arith, travel, leaver_arrives p.model p.moves c.requires.counts.takes c.args.comer c.args.leaver c.requires.leaver)

pub returns-clause-comer : goal.returns-clause-comer
returns-clause-comer c =
    let p = c.args.counts.now.plan in
    let s = c.args.leaver.step in
    let model = c.model.ensures.same ∙ c.layout.ensures in
    let then : s.moment + c.arc-row.result.now.travel ≡ arrival p.model s.arc s.moment =
    ap (λ (r : ArcRow). s.moment + r.travel) c.arc-row.ensures ∙ ap (λ (m : Model). arrival m s.arc s.moment) model in
    comes_next p.model p.moves c.requires.counts.takes c.args.comer c.args.leaver _ c.requires.leaver
    (record {
      node = ap (λ (r : ArcRow). r.to) c.arc-row.ensures ∙ ap (λ (m : Model). head m s.arc) model;
      moment = then;
      number = omega (arith, c.from.ensures, c.comers_before-first.ensures.number, ap (comers_before p.model p.moves s.arc) then);
    })
