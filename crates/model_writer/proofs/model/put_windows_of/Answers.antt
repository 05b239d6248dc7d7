use Rattle.std.proofs.Common.{◌≡◌, ◌<◌, length, get_or, ap, ◌∙◌, arith}
use Rattle.std.proofs.lemmas.List.{get_or_default}
use Rattle.line_io.proofs.WriterLemmas.{writes_each, writes_is}
use Rattle.evac_law.specs.Windows.{window_of}
use Rattle.model_writer.specs.ModelText.{window_text, part_text}
use Rattle.model_writer.proofs.model.put_windows_of.Goals as goal

pub loop-window-preserved : goal.loop-window-preserved
loop-window-preserved g c =
    let rows = c.args.row.now.windows.items in
    let i = c.loop-window.window-index in
    let e : c.as_slice-window-items.result.now ≡ rows = c.as_slice-window-items.ensures.value in
    let within : i < length rows = omega (arith, c.loop-window-test.true, ap length e) in
    let inside : i < length c.as_slice-window-items.result.now = omega (arith, c.loop-window-test.true) in
    let same = ap part_text c.said_window.ensures.value ∙ ap (window_text c.args.model.now c.args.row.now) (get_or_default c.as_slice-window-items.result.now i _ (window_of 0 0) inside ∙ ap (λ l. get_or l i (window_of 0 0)) e) in
    writes_each (window_text c.args.model.now c.args.row.now) rows i (window_of 0 0) within c.loop-window.invariant (writes_is same c.put_part.ensures)
