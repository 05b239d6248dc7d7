use Rattle.std.proofs.Common.{ap, sym, subst}
use Rattle.std.specs.List.{All, flat_map}
use Rattle.line_io.proofs.WriterLemmas.{writes_is, writes_then}
use Rattle.evac_law.specs.Certificates.{label_cut}
use Rattle.evac_law.specs.Cuts.{cut_items, cut_value}
use Rattle.report_text.specs.Parts.{IsItemOf}
use Rattle.report_text.specs.ReportText.{cut_line, cut_text, item_line}
use Rattle.report_text.proofs.CutItems.{items_are}
use Rattle.report_text.proofs.cut.put_label_cut.Goals as goal

pub returns : goal.returns
unfolding cut_text
returns g c =
    let m = c.args.model.now in
    let k = c.args.k in
    let x = label_cut m c.args.labels.now k in
    writes_then (writes_then (writes_is {u = cut_line k (cut_value m x k)} (ap (cut_line k) c.cut_value.ensures.value) c.put_cut_line.ensures) (writes_is {u = flat_map (item_line m) (cut_items m x k)} (ap (flat_map (item_line m)) c.crossing-items.ensures) c.put_items.ensures)) c.put_end.ensures

pub put_items-requires-clause-items : goal.put_items-requires-clause-items
put_items-requires-clause-items g c =
    let m = c.args.model.now in
    subst (All (IsItemOf m)) (sym c.crossing-items.ensures) (items_are m (label_cut m c.args.labels.now c.args.k) c.args.k)
