use Rattle.block_reader.proofs.OneReading.{one-reading}
use Rattle.block_reader.proofs.laws.lines_are_read_one_way.Goals as goal

pub returns : goal.returns
returns c = one-reading
