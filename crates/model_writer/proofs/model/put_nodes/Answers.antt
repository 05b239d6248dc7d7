use Rattle.std.proofs.Common.{◌<◌, length, ap, ◌∙◌, arith}
use Rattle.std.proofs.lemmas.List.{get_or_default}
use Rattle.line_io.proofs.WriterLemmas.{writes_each, writes_is}
use Rattle.evac_law.specs.Building.{no_node}
use Rattle.model_writer.specs.ModelText.{node_text, part_text}
use Rattle.model_writer.proofs.model.put_nodes.Goals as goal

pub loop-row-preserved : goal.loop-row-preserved
loop-row-preserved g c =
    let rows = c.args.nodes.now in
    let i = c.loop-row.row-index in
    let within : i < length rows = omega (arith, c.loop-row-test.true) in
    let inside : i < length rows = omega (arith, c.loop-row-test.true) in
    let same = ap part_text c.said_node.ensures.value ∙ ap node_text (get_or_default rows i _ no_node inside) in
    writes_each node_text rows i no_node within c.loop-row.invariant (writes_is same c.put_part.ensures)
