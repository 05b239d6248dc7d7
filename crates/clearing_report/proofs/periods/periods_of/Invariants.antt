use Rattle.std.proofs.Common.{◌≡◌, ◌*◌, ◌^◌, ◌≤◌}
use Rattle.std.specs.List.{sum_by}
use Rattle.evac_law.specs.Limits.{horizon_limit}
use Rattle.evac_law.specs.Sums.{below}
use Rattle.clearing_report.proofs.PeriodLemmas.{part_at}
use Rattle.clearing_report.proofs.periods.periods_of.Given as goal

abbrev pub invariant-loop-moment : goal.invariant-loop-moment
invariant-loop-moment g l = record {
  sum : l.all ≡ sum_by (part_at l.model (g.F.Standing.stand l.standing).plan l.arc) (below l.moment);
  small : l.all ≤ l.moment * (horizon_limit * 2 ^ 32);
}
