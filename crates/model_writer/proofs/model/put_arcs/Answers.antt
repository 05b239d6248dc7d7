use Rattle.std.proofs.Common.{◌≡◌, ◌<◌, length, get_or, ap, ◌∙◌, arith}
use Rattle.line_io.proofs.WriterLemmas.{writes_each, writes_is}
use Rattle.model_writer.specs.ModelText.{arc_text}
use Rattle.model_writer.proofs.model.put_arcs.Goals as goal

pub loop-row-preserved : goal.loop-row-preserved
loop-row-preserved g c =
    let arcs = c.args.model.now.arcs in
    let i = c.loop-row.row-index in
    let row = c.row-item.result in
    let e : c.as_slice-row-items.result.now ≡ arcs = c.as_slice-row-items.ensures in
    let within : i < length arcs = omega (arith, c.loop-row-test.true, ap length e) in
    let same : row ≡ get_or arcs i row = c.row-item.is ∙ ap (λ l. get_or l i row) e in
    writes_each (arc_text c.args.model.now) arcs i row within c.loop-row.invariant
    (writes_is (ap (arc_text c.args.model.now) same) c.put_arc.ensures)
