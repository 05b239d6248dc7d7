use Rattle.std.proofs.Common.{◌∙◌, [], ◌∷◌, ◌++◌, ap, append_assoc, refl, sym}
use Rattle.line_io.proofs.WriterLemmas.{writes_is, writes_none, writes_then}
use Rattle.report_text.specs.ReportText.{item_line}
use Rattle.report_text.proofs.CutItems.{head_is, tail_is}
use Rattle.report_text.proofs.Parts.{parts-one}
use Rattle.report_text.proofs.cut.put_items.Goals as goal

pub put_item-requires-clause-item : goal.put_item-requires-clause-item
put_item-requires-clause-item g c =
    head_is c.args.model.now c.loop-item.items c.next.new.self c.in-Some.item c.in-Some.ensures.some c.loop-item.invariant.2

pub loop-item-init : goal.loop-item-init
loop-item-init g c = ([], refl, c.requires.items, writes_none _)

pub loop-item-preserved : goal.loop-item-preserved
loop-item-preserved g c =
    let m = c.args.model.now in
    let h = c.loop-item.invariant in
    let item = c.in-Some.item in
    let e = c.in-Some.ensures.some in (
      h.0 ++ item ∷ [],
      append_assoc h.0 (item ∷ []) c.next.new.self ∙ ap (λ l. h.0 ++ l) (sym e) ∙ h.1,
      tail_is m c.loop-item.items c.next.new.self item e h.2,
      writes_is (sym (parts-one (item_line m) h.0 item)) (writes_then h.3 c.put_item.ensures),
    )
