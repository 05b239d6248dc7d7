use Rattle.std.proofs.Common.{codes, ap, ◌∙◌}
use Rattle.line_io.proofs.WriterLemmas.{writes_is, writes_then}
use Rattle.evac_law.specs.Building.{people}
use Rattle.report_text.specs.ReportText.{number_line}
use Rattle.drill_building.specs.Summary.{drill_text}
use Rattle.drill_building.proofs.summary.put_drill.Goals as goal

pub returns : goal.returns
unfolding drill_text
returns g c =
    let to-drill = writes_is (ap (number_line (codes "drill")) (c.from.ensures)) c.put_number.ensures in
    let to-nodes = writes_then to-drill (writes_is (ap (number_line (codes "nodes")) (c.from-nodes.ensures ∙ c.node_count.ensures.count)) c.put_number-2.ensures) in
    let to-arcs = writes_then to-nodes (writes_is (ap (number_line (codes "arcs")) (c.from-arcs.ensures ∙ c.arc_count.ensures.count)) c.put_number-3.ensures) in
    let to-people = writes_then to-arcs (writes_is (ap (number_line (codes "people")) (c.from-people.ensures ∙ c.people.ensures)) c.put_number-4.ensures) in
    let to-cleared = writes_then to-people (writes_is (ap (number_line (codes "cleared")) (c.from-2.ensures)) c.put_number-5.ensures) in
    let to-uncongested = writes_then to-cleared (writes_is (ap (number_line (codes "uncongested")) (c.from-3.ensures)) c.put_number-6.ensures) in
    let to-all = writes_then to-uncongested (c.put_number-7.ensures) in
    writes_then to-all c.put_end.ensures
