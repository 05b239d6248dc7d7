use Rattle.std.proofs.Common.{ap, codes}
use Rattle.std.specs.List.{flat_map}
use Rattle.line_io.proofs.WriterLemmas.{writes_is, writes_then}
use Rattle.evac_law.specs.Sums.{places}
use Rattle.bottleneck_report.specs.Crossings.{arc_periods, hold_periods}
use Rattle.report_text.specs.ReportText.{arc_periods_part, bottlenecks_text, hold_periods_part, number_line}
use Rattle.report_text.proofs.Periods.{arc_texts, hold_texts}
use Rattle.report_text.proofs.bottlenecks.put_bottlenecks.Goals as goal

pub returns : goal.returns
unfolding bottlenecks_text
returns g c =
    λ l k same.
    let m = c.args.model.now in
    writes_then (writes_then (writes_then (writes_is {u = number_line (codes "bottlenecks") c.args.index} (ap (number_line (codes "bottlenecks")) c.from.ensures) c.put_number.ensures) (writes_is {u = flat_map (arc_periods_part m (arc_periods m l k)) (places m.arcs)} (arc_texts m l k c.args.bottlenecks.now same) c.put_arcs.ensures)) (writes_is {u = flat_map (hold_periods_part m (hold_periods m l k)) (places m.nodes)} (hold_texts m l k c.args.bottlenecks.now same) c.put_holds.ensures)) c.put_end.ensures
