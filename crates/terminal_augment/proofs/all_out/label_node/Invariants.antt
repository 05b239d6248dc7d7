use Rattle.std.proofs.Common.{◌≡◌, ◌<◌}
use Rattle.terminal_augment.specs.AllOut.{AreLowered}
use Rattle.terminal_augment.proofs.all_out.label_node.Given as goal

abbrev pub invariant-loop-moment : goal.invariant-loop-moment
invariant-loop-moment l = record {
  lowered : AreLowered l.k (λ n t. (n ≡ l.node) × (t < l.moment)) l.fn.labels l.labels;
}
