use Rattle.clearing_report.proofs.Reach.{uncongested_is_least}
use Rattle.clearing_report.proofs.laws.uncongested_is_least.Goals as goal

pub returns : goal.returns
returns c m p u k valid is feasible all_out = uncongested_is_least m valid p u k is feasible all_out
