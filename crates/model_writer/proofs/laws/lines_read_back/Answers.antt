use Rattle.std.proofs.Common.{arith}
use Rattle.model_writer.proofs.EndedLemmas.{lines-ended}
use Rattle.model_writer.proofs.laws.lines_read_back.Goals as goal

pub returns : goal.returns
returns c = λ xs are fits. lines-ended 0 xs are (omega arith)
