use Rattle.std.proofs.Common.{◌*◌, ◌^◌, sum_by}
use Rattle.evac_law.specs.Sums.{below}
use Rattle.cut_witness.specs.Changes.{IsRaised}
use Rattle.cut_witness.specs.Shares.{arc_share}
use Rattle.cut_witness.proofs.all_cuts.add_arcs_of.Given as goal

abbrev pub invariant-loop-moment : goal.invariant-loop-moment
invariant-loop-moment l = IsRaised (λ k. sum_by (arc_share l.model l.labels k l.arc) (below l.moment)) (l.moment * 2 ^ 33) l.fn.differences l.differences
