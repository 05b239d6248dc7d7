use Rattle.model_writer.proofs.TextLemmas.{text-is}
use Rattle.model_writer.proofs.laws.text_is_of_description.Goals as goal

pub returns : goal.returns
returns c = λ b d is. text-is b d is
