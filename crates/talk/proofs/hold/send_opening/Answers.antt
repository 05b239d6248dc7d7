use Rattle.std.proofs.Common.{rules}
use Rattle.talk.proofs.Sending.{sent}
use Rattle.talk.proofs.hold.send_opening.Goals as goal

pub returns : goal.returns
returns g c =
    sent c.flush.result c.new-writer.result c.open.new.writer c.flush.new.self _ c.new-writer.ensures.failed (search rules) (search rules) (search rules) (search rules)
    c.open.ensures c.flush.ensures.text c.flush.ensures.ok c.flush.ensures.sent c.flush.ensures.err
