use Rattle.std.proofs.Common.{arith}
use Rattle.block_reader.proofs.ExitLemmas.{exits-from, exits-not}
use Rattle.block_reader.proofs.builder.only_exits.Goals as goal

pub returns-then-not-is_exit : goal.returns-then-not-is_exit
returns-then-not-is_exit c = grind (arith, exits-not)

pub returns : goal.returns
returns c = grind (arith, exits-from)

pub loop-node-preserved : goal.loop-node-preserved
loop-node-preserved c = grind arith
