use Rattle.std.proofs.Common.{◌≡◌, take, sum_by}
use Rattle.evac_law.proofs.model.sum_starts.Given as goal

abbrev pub invariant-loop-row : goal.invariant-loop-row
invariant-loop-row l = l.all ≡ sum_by (λ n. n.start) (take l.row-index l.nodes)
