use Rattle.residual_net.proofs.Kept.{kept_of}
use Rattle.residual_net.proofs.Walks.{open_tail}
use Rattle.residual_net.proofs.net.Net.tail.Goals as goal

pub returns-clause-open : goal.returns-clause-open
returns-clause-open c h =
    let net = (kept_of c.self.view_is c.self.invariant).stored.net in
    rw (c.tail.ensures, c.self.view_is) (open_tail c.args.self.now.site net.site c.args.place c.requires h)
