-- The label of the run stands from its moment up to this one.
use Rattle.std.proofs.Common.{◌≡◌, ℕ, ◌≤◌}
use Rattle.evac_law.specs.LabelTable.{label_at}
use Rattle.block_reader.specs.Drafts.{filled}
use Rattle.block_reader.proofs.LabelLemmas.{IsFull}
use Rattle.block_reader.proofs.finish.fill.Given as goal

abbrev pub invariant-loop-moment : goal.invariant-loop-moment
invariant-loop-moment l = record {
  nodes : l.labels.nodes ≡ l.initial.labels.nodes;
  horizon : l.labels.horizon ≡ l.initial.labels.horizon;
  full : IsFull l.labels;
  first : l.stop ≤ l.run.moment → l.moment ≡ l.run.moment;
  labels : (n t : ℕ) → t ≤ l.initial.labels.horizon → label_at l.labels n t ≡ filled l.initial.labels l.run l.moment n t;
}
