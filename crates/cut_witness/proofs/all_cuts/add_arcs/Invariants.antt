use Rattle.std.proofs.Common.{◌*◌, ◌^◌, sum_by}
use Rattle.evac_law.specs.Sums.{below}
use Rattle.cut_witness.specs.Changes.{IsRaised}
use Rattle.cut_witness.specs.Shares.{arc_shares}
use Rattle.cut_witness.proofs.all_cuts.add_arcs.Given as goal

abbrev pub invariant-loop-arc : goal.invariant-loop-arc
invariant-loop-arc l = IsRaised (λ k. sum_by (arc_shares l.model l.labels k) (below l.arc)) (l.arc * 2 ^ 49) l.fn.differences l.differences
