-- The runs so far are filled in, but for the cells that the next run reaches.
use Rattle.std.proofs.Common.{◌≡◌, ℕ, ◌<◌, ◌≤◌, length, take}
use Rattle.evac_law.specs.LabelTable.{label_at, unset}
use Rattle.block_reader.specs.Drafts.{run_label}
use Rattle.block_reader.proofs.LabelLemmas.{IsFull}
use Rattle.block_reader.proofs.RunLabels.{IsOpen}
use Rattle.block_reader.proofs.finish.labels_of.Given as goal

abbrev pub invariant-loop-place : goal.invariant-loop-place
invariant-loop-place l = record {
  nodes : l.labels.nodes ≡ length l.model.nodes;
  horizon : l.labels.horizon ≡ l.model.horizon;
  full : IsFull l.labels;
  early : (n t : ℕ) → n < length l.model.nodes → t < l.cleared → IsOpen l.runs l.place n t → label_at l.labels n t ≡ run_label (take l.place l.runs) n t;
  late : (n t : ℕ) → n < length l.model.nodes → l.cleared ≤ t → t ≤ l.model.horizon → label_at l.labels n t ≡ unset;
}
