use Rattle.std.proofs.Common.{rules}
use Rattle.what_if.proofs.OwnBlock.{flushed}
use Rattle.what_if.proofs.own_block.send_block.Goals as goal

pub returns : goal.returns
returns g c =
    flushed c.flush.result c.new-writer.result c.put_block.new.writer c.flush.new.self _ c.new-writer.ensures.failed (search rules) (search rules) (search rules) c.requires
    c.put_block.ensures c.flush.ensures.text c.flush.ensures.ok c.flush.ensures.sent
