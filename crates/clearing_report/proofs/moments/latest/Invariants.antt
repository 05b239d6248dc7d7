use Rattle.std.proofs.Common.{◌≡◌, get_or, take, None}
use Rattle.clearing_report.specs.Clearing.{latest}
use Rattle.clearing_report.proofs.moments.latest.Given as goal

abbrev pub invariant-loop-node : goal.invariant-loop-node
invariant-loop-node l = l.last ≡ latest (λ n. get_or l.moments n None) (take l.node-index l.nodes)
