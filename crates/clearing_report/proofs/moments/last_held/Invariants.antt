use Rattle.std.proofs.Common.{◌≡◌, ltb}
use Rattle.clearing_report.proofs.MomentLemmas.{last_below}
use Rattle.clearing_report.proofs.moments.last_held.Given as goal

abbrev pub invariant-loop-moment : goal.invariant-loop-moment
invariant-loop-moment g l = l.last ≡ last_below (λ t. ltb 0 ((g.F.Standing.stand l.standing).contents l.node t)) l.moment
