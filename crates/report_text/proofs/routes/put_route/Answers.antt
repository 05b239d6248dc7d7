use Rattle.std.proofs.Common.{ap, arith}
use Rattle.std.specs.List.{flat_map}
use Rattle.line_io.proofs.WriterLemmas.{writes_is, writes_then}
use Rattle.evac_law.proofs.ValidLemmas.{name_is}
use Rattle.certificate_text.specs.BlockText.{name_of_node}
use Rattle.report_text.specs.ReportText.{route_line, step_part}
use Rattle.report_text.proofs.Given.{start_in, steps_are}
use Rattle.report_text.proofs.routes.put_route.Goals as goal

pub returns : goal.returns
returns g c =
    let m = c.args.model.now in
    let r = c.args.route.now in
    writes_then (writes_is {u = route_line r.people (name_of_node m r.start) r.entered} (cc) c.put_route_line.ensures) (writes_is (ap (flat_map (step_part m)) c.steps.ensures) c.put_steps.ensures)

pub node-requires : goal.node-requires
node-requires g c = let inside = start_in c.args.model.now c.args.route.now c.requires.valid c.requires.route in omega (arith, inside, c.start.ensures)

pub put_route_line-requires : goal.put_route_line-requires
put_route_line-requires g c = grind (arith, name_is, start_in)

pub put_steps-requires-clause-steps : goal.put_steps-requires-clause-steps
put_steps-requires-clause-steps g c = grind (arith, steps_are)
