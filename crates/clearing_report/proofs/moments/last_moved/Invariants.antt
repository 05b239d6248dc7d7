use Rattle.std.proofs.Common.{◌≡◌, ltb}
use Rattle.evac_law.specs.Plans.{moved}
use Rattle.clearing_report.proofs.MomentLemmas.{last_below}
use Rattle.clearing_report.proofs.moments.last_moved.Given as goal

abbrev pub invariant-loop-moment : goal.invariant-loop-moment
invariant-loop-moment g l = l.last ≡ last_below (λ t. ltb 0 (moved (g.F.Standing.stand l.standing).plan l.arc t)) l.moment
