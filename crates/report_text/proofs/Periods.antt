-- A report on labels has the numbers of the labels.
use Rattle.std.proofs.Common.{◌≡◌, ℕ, ◌<◌, length, arith}
use Rattle.std.specs.Prelude.{slice_index}
use Rattle.std.specs.List.{flat_map}
use Rattle.std.proofs.lemmas.List.FromFn.{get_or-map-range_with_len}
use Rattle.evac_law.specs.declared.model.Model.{Model}
use Rattle.evac_law.specs.LabelTable.{LabelTable}
use Rattle.evac_law.specs.Sums.{places}
use Rattle.bottleneck_report.specs.Crossings.{PeriodCounts, arc_periods, counts_of, hold_periods}
use Rattle.certificate_text.proofs.ListParts.{below-same}
use Rattle.report_text.specs.ReportText.{arc_periods_part, hold_periods_part}

module _ (m : Model) (l : LabelTable) (c : ℕ) (v : PeriodCounts) (same : v ≡ counts_of m l c) where
  arc_number : (a : ℕ) → a < length m.arcs → slice_index v.arcs a ≡ arc_periods m l c a
  arc_number a h = grind (arith, get_or-map-range_with_len)

  hold_number : (n : ℕ) → n < length m.nodes → slice_index v.holds n ≡ hold_periods m l c n
  hold_number n h = grind (arith, get_or-map-range_with_len)

  pub arc_texts : flat_map (arc_periods_part m (slice_index v.arcs)) (places m.arcs) ≡ flat_map (arc_periods_part m (arc_periods m l c)) (places m.arcs)
  arc_texts = grind (arith, below-same, arc_number)

  pub hold_texts : flat_map (hold_periods_part m (slice_index v.holds)) (places m.nodes) ≡ flat_map (hold_periods_part m (hold_periods m l c)) (places m.nodes)
  hold_texts = grind (arith, below-same, hold_number)
