use Rattle.std.proofs.Common.{arith}
use Rattle.std.proofs.lemmas.List.{length-take-le, drop_all}
use Rattle.line_io.proofs.ReaderLemmas.{given-front}
use Rattle.line_io.proofs.clean.CleanSourceSource.take.Goals as goal

pub returns-clause-bytes : goal.returns-clause-bytes
returns-clause-bytes c = grind (arith, length-take-le, given-front, drop_all)
