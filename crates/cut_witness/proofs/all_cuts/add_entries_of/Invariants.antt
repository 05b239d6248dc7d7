use Rattle.std.proofs.Common.{◌*◌, ◌^◌, sum_by}
use Rattle.evac_law.specs.Sums.{below}
use Rattle.cut_witness.specs.Changes.{IsRaised}
use Rattle.cut_witness.specs.Shares.{entry_share}
use Rattle.cut_witness.proofs.all_cuts.add_entries_of.Given as goal

abbrev pub invariant-loop-moment : goal.invariant-loop-moment
invariant-loop-moment l = IsRaised (λ k. sum_by (entry_share l.model l.labels k l.node) (below l.moment)) (l.moment * 2 ^ 33) l.fn.differences l.differences
