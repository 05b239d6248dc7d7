use Rattle.std.proofs.Common.{◌≡◌, ◌<◌, length, get_or, ap, ◌∙◌, arith}
use Rattle.std.proofs.lemmas.List.{get_or_default}
use Rattle.line_io.proofs.WriterLemmas.{writes_each, writes_is}
use Rattle.model_text.specs.Taken.{entrant_of}
use Rattle.model_writer.specs.ModelText.{entrant_text, part_text}
use Rattle.model_writer.proofs.model.put_entrants.Goals as goal

pub loop-entrant-preserved : goal.loop-entrant-preserved
loop-entrant-preserved g c =
    let rows = c.args.model.now.entrants in
    let i = c.loop-entrant.entrant-index in
    let e : c.as_slice-entrant-items.result.now ≡ rows = c.as_slice-entrant-items.ensures in
    let within : i < length rows = omega (arith, c.loop-entrant-test.true, ap length e) in
    let inside : i < length c.as_slice-entrant-items.result.now = omega (arith, c.loop-entrant-test.true) in
    let same = ap part_text c.said_entrant.ensures.value ∙ ap (entrant_text c.args.model.now) (get_or_default c.as_slice-entrant-items.result.now i _ (entrant_of 0 0 0) inside ∙ ap (λ l. get_or l i (entrant_of 0 0 0)) e) in
    writes_each (entrant_text c.args.model.now) rows i (entrant_of 0 0 0) within c.loop-entrant.invariant (writes_is same c.put_part.ensures)
