use Rattle.std.proofs.Common.{arith}
use Rattle.clearing_report.proofs.PeriodLemmas.{part_at, periods_is}
use Rattle.clearing_report.proofs.periods.person_periods.Goals as goal

pub returns : goal.returns
returns g c = grind (arith, part_at, periods_is)
