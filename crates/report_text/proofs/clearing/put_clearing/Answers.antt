use Rattle.std.proofs.Common.{ap, codes}
use Rattle.std.specs.List.{flat_map}
use Rattle.line_io.proofs.WriterLemmas.{writes_is, writes_then}
use Rattle.evac_law.specs.Sums.{places}
use Rattle.clearing_report.specs.Clearing.{floor_occupied, last_occupied}
use Rattle.report_text.specs.ReportText.{clearing_text, floor_clear_part, node_clear_part, number_line}
use Rattle.report_text.proofs.Clears.{floors_are, node_texts}
use Rattle.report_text.proofs.clearing.put_clearing.Goals as goal

pub returns : goal.returns
unfolding clearing_text
returns g c =
    λ p report.
    let m = c.args.subject.now.model.now in
    let floors = c.args.subject.now.names.now.floors in
    writes_then (writes_then (writes_then (writes_is {u = number_line (codes "clearing") c.args.subject.now.index} (ap (number_line (codes "clearing")) c.from.ensures) c.put_number.ensures) (writes_is {u = flat_map (node_clear_part m (last_occupied m p)) (places m.nodes)} (node_texts m p c.args.clearing.now report) c.put_nodes.ensures)) (writes_is {u = flat_map (floor_clear_part (floor_occupied m p)) floors} (floors_are c.args.floors.now c.floors.result.now m p c.args.clearing.now report floors c.requires.floors c.floors.ensures.floors) c.put_floors.ensures)) c.put_end.ensures
