use Rattle.model_writer.proofs.AgainLemmas.{texts-again}
use Rattle.model_writer.proofs.laws.texts_describe_again.Goals as goal

pub returns : goal.returns
returns c = λ bytes d last rest h. texts-again bytes d last rest h
