use Rattle.std.proofs.Common.{arith}
use Rattle.model_text.proofs.TrimLemmas.{trim-one, trim-none, trim-empty}
use Rattle.model_text.proofs.fields.trimmed.Goals as goal
use Rattle.model_text.proofs.fields.trimmed.Goals.{then-loop-end-test+else-is_blank, else-loop-end-test}

pub loop-end-preserved : goal.loop-end-preserved
loop-end-preserved c = grind (arith, trim-one)

pub returns : goal.returns
returns c = grind (arith, then-loop-end-test+else-is_blank, trim-none, else-loop-end-test, trim-empty)
