use Rattle.std.proofs.Common.{[], subst}
use Rattle.evac_law.specs.declared.model.Model.{Model}
use Rattle.edit_session.proofs.Standing.{stands_of}
use Rattle.line_io.proofs.WriterLemmas.{writes_none}
use Rattle.report_text.specs.ReportText.{SaysCards}
use Rattle.evac_top.proofs.PlanLemmas.{where-none, where-some}
use Rattle.evac_top.proofs.plan.put_cards.Goals as goal

pub put_cards-requires-clause-stands : goal.put_cards-requires-clause-stands
put_cards-requires-clause-stands g c =
    let model = c.model.ensures in stands_of c.args.session.now.state c.model.result.now model.model model.solved model.stands

pub returns-in-Some : goal.returns-in-Some
returns-in-Some g c =
    let s = c.args.session.now.state in
    let put = c.put_cards.ensures.text in
    let says = subst (λ (m : Model). SaysCards 0 m s.plan put.0) c.model.ensures.model put.1 in
    (put.0, where-some c.args.cards.now c.in-Some.cards (SaysCards 0 s.model s.plan) put.0 c.in-Some.is says, put.2)

pub returns-in-None : goal.returns-in-None
returns-in-None g c =
    let s = c.args.session.now.state in ([], where-none c.args.cards.now (SaysCards 0 s.model s.plan) c.in-None.is, writes_none _)
