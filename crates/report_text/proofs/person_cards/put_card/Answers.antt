use Rattle.std.proofs.Common.{ap, arith}
use Rattle.std.specs.List.{flat_map}
use Rattle.line_io.proofs.WriterLemmas.{writes_is, writes_then}
use Rattle.evac_law.proofs.ValidLemmas.{name_is}
use Rattle.certificate_text.specs.BlockText.{name_of_node}
use Rattle.report_text.specs.ReportText.{card_line, step_part}
use Rattle.report_text.proofs.person_cards.put_card.Goals as goal

pub returns : goal.returns
returns g c =
    let m = c.args.model.now in
    let r = c.args.card.now in
    writes_then (writes_is {u = card_line c.args.number (name_of_node m r.start) r.entered} (cc) c.put_card_line.ensures) (writes_is (ap (flat_map (step_part m)) c.steps.ensures) c.put_steps.ensures)

pub node-requires : goal.node-requires
node-requires g c = omega (arith, c.requires.card.start_in, c.start.ensures)

pub put_card_line-requires : goal.put_card_line-requires
put_card_line-requires g c = grind (arith, name_is)

pub put_steps-requires-clause-steps : goal.put_steps-requires-clause-steps
put_steps-requires-clause-steps g c = grind arith
