use Rattle.std.proofs.Common.{◌<◌}
use Rattle.terminal_augment.specs.AllOut.{AreLowered}
use Rattle.terminal_augment.proofs.all_out.label_all.Given as goal

abbrev pub invariant-loop-node : goal.invariant-loop-node
invariant-loop-node l = record {
  lowered : AreLowered l.k (λ n t. (n < l.node) × (t < l.k)) l.fn.labels l.labels;
}
