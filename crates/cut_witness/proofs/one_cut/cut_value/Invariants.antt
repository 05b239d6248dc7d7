use Rattle.std.proofs.Common.{◌≡◌, ◌+◌, ◌*◌, ◌^◌, ◌≤◌, length}
use Rattle.std.specs.List.{sum_by}
use Rattle.evac_law.specs.Certificates.{label_cut}
use Rattle.evac_law.specs.Cuts.{cut_items, cut_value, number_of}
use Rattle.cut_witness.proofs.one_cut.cut_value.Given as goal

abbrev pub invariant-loop-item : goal.invariant-loop-item
invariant-loop-item l = record {
  value : l.value + sum_by number_of l.items ≡ cut_value l.model (label_cut l.model l.labels l.k) l.k;
  few : l.value + length l.items * 2 ^ 32 ≤ length (cut_items l.model (label_cut l.model l.labels l.k) l.k) * 2 ^ 32;
}

abbrev pub decreases-loop-item : goal.decreases-loop-item
decreases-loop-item l = length l.items
