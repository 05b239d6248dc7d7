use Rattle.std.proofs.Common.{◌≡◌, ◌+◌, ◌*◌, ◌^◌, ◌≤◌}
use Rattle.std.specs.List.{sum_by}
use Rattle.evac_law.specs.Limits.{horizon_limit}
use Rattle.evac_law.specs.Sums.{below, moments_to}
use Rattle.clearing_report.proofs.PeriodLemmas.{part_at}
use Rattle.clearing_report.proofs.periods.person_periods.Given as goal

abbrev pub invariant-loop-arc : goal.invariant-loop-arc
invariant-loop-arc g l = record {
  sum : l.all ≡ sum_by (λ a. sum_by (part_at l.model (g.F.Standing.stand l.standing).plan a) (moments_to l.model.horizon)) (below l.arc);
  small : l.all ≤ l.arc * ((horizon_limit + 1) * (horizon_limit * 2 ^ 32));
}
