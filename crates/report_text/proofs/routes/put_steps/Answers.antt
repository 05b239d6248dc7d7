use Rattle.std.proofs.Common.{arith, get_or}
use Rattle.line_io.proofs.WriterLemmas.{writes_each, writes_is}
use Rattle.route_decompose.specs.declared.route.RouteStep.{RouteStep}
use Rattle.report_text.specs.ReportText.{step_part}
use Rattle.report_text.proofs.routes.put_steps.Goals as goal

no_step : RouteStep
no_step = record { moment = 0; arc = 0 }

pub loop-step-preserved : goal.loop-step-preserved
unfolding no_step
loop-step-preserved g c =
    let m = c.args.model.now in
    let steps = c.args.steps.now in
    let i = c.loop-step.step-index in
    writes_each (step_part m) steps i no_step (omega (arith, c.loop-step-test.true)) c.loop-step.invariant
    (writes_is {u = step_part m (get_or steps i no_step)} (cc) c.put_step.ensures)
