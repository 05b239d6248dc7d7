use Rattle.model_text.proofs.ReadingLemmas.{opening-valid}
use Rattle.model_text.proofs.laws.described_is_valid.Goals as goal

pub returns : goal.returns
returns c = λ lines building last rest. opening-valid lines 0 building last rest
