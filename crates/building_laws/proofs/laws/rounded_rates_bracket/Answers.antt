use Rattle.building_laws.proofs.Shares.{rounded_rates_bracket}
use Rattle.building_laws.proofs.laws.rounded_rates_bracket.Goals as goal

pub returns : goal.returns
returns c = rounded_rates_bracket
