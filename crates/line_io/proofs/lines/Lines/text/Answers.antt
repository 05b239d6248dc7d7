use Rattle.std.proofs.Common.{arith}
use Rattle.std.proofs.lemmas.List.{length-take}
use Rattle.line_io.specs.Line.{line_limit}
use Rattle.line_io.proofs.lines.Lines.text.Goals as goal

pub returns-clause-short : goal.returns-clause-short
unfolding line_limit
returns-clause-short c = omega (arith, c.self.invariant.in_line, length-take c.self.inside.kept c.deref.result.now)
