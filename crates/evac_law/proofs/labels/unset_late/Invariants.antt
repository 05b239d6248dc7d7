use Rattle.std.proofs.Common.{◌≡◌, ◌++◌, drop, map, take}
use Rattle.evac_law.specs.LabelTable.{below_or_unset}
use Rattle.evac_law.proofs.labels.unset_late.Given as goal

abbrev pub invariant-loop-label : goal.invariant-loop-label
invariant-loop-label l = l.labels ≡ map (below_or_unset l.from) (take l.label-index l.fn.labels) ++ drop l.label-index l.fn.labels
