use Rattle.std.proofs.Common.{[]}
use Rattle.line_io.proofs.WriterLemmas.{writes_none}
use Rattle.session_text.specs.StateTexts.{SaysRoutesOf}
use Rattle.evac_top.proofs.PlanLemmas.{where-none, where-some}
use Rattle.evac_top.proofs.plan.put_routes.Goals as goal

pub returns-in-Some : goal.returns-in-Some
returns-in-Some g c =
    let put = c.put_routes.ensures.text in (put.0, where-some c.args.routes.now c.in-Some.routes (SaysRoutesOf 0 c.args.session.now.state) put.0 c.in-Some.is put.1, put.2)

pub returns-in-None : goal.returns-in-None
returns-in-None g c = ([], where-none c.args.routes.now (SaysRoutesOf 0 c.args.session.now.state) c.in-None.is, writes_none _)
