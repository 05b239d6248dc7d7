use Rattle.std.proofs.Common.{arith}
use Rattle.line_io.proofs.Pieces.{without_last-drops, without_last-keeps, without_last-nil}
use Rattle.line_io.proofs.lines.without.Goals as goal
use Rattle.line_io.proofs.lines.without.Goals.{else-count-gt0-via-then-count-gt0+else-bytes-count, else-count-gt0-via-else-count-gt0}

pub returns-then-bytes-count : goal.returns-then-bytes-count
returns-then-bytes-count c = grind (arith, without_last-drops)

pub returns-else-count-gt0 : goal.returns-else-count-gt0
returns-else-count-gt0 c = grind (arith, else-count-gt0-via-then-count-gt0+else-bytes-count, without_last-keeps, else-count-gt0-via-else-count-gt0, without_last-nil)
