use Rattle.std.proofs.Common.{rules}
use Rattle.talk.proofs.Sending.{sent}
use Rattle.evac_top.proofs.upgrade.send_model.Goals as goal

pub returns : goal.returns
returns g c =
    sent c.flush.result c.new-writer.result c.put_model.new.writer c.flush.new.self _ c.new-writer.ensures.failed (search rules) (search rules) (search rules) (search rules)
    c.put_model.ensures c.flush.ensures.text c.flush.ensures.ok c.flush.ensures.sent c.flush.ensures.err
