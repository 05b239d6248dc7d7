use Rattle.std.proofs.Common.{◌*◌, ◌^◌, sum_by}
use Rattle.evac_law.specs.Sums.{below}
use Rattle.cut_witness.specs.Changes.{IsRaised}
use Rattle.cut_witness.specs.Shares.{entry_shares}
use Rattle.cut_witness.proofs.all_cuts.add_entries.Given as goal

abbrev pub invariant-loop-node : goal.invariant-loop-node
invariant-loop-node l = IsRaised (λ k. sum_by (entry_shares l.model l.labels k) (below l.node)) (l.node * 2 ^ 49) l.fn.differences l.differences
