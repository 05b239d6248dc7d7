use Rattle.model_text.proofs.PlainLemmas.{opening-plain}
use Rattle.model_text.proofs.laws.described_is_plain.Goals as goal

pub returns : goal.returns
returns c = λ limit lines building last rest fit. opening-plain limit lines 0 building last rest fit
