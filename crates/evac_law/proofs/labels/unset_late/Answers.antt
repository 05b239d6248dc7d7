use Rattle.std.proofs.Common.{arith, slice_index}
use Rattle.std.proofs.lemmas.List.{get_or_default}
use Rattle.std.proofs.lemmas.List.Edits.{map_over_more}
use Rattle.evac_law.specs.LabelTable.{below_or_unset}
use Rattle.evac_law.proofs.labels.unset_late.Goals as goal

pub loop-label-preserved : goal.loop-label-preserved
loop-label-preserved c =
    let label = slice_index c.loop-label.labels c.loop-label.label-index in
    let same = get_or_default c.loop-label.labels c.loop-label.label-index 0 label (omega (arith, c.loop-label-test.true, c.loop-label.auto.labels)) in
    rw c.below_or_unset.ensures
    (map_over_more (below_or_unset c.args.from) c.args.labels.now c.loop-label.labels c.loop-label.label-index label c.loop-label-test.true c.loop-label.invariant same)
