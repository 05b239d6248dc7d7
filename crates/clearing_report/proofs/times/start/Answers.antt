use Rattle.std.proofs.Common.{arith}
use Rattle.clearing_report.proofs.TimeLemmas.{first_times}
use Rattle.clearing_report.proofs.times.start.Goals as goal

pub returns : goal.returns
returns c = grind (arith, first_times)
