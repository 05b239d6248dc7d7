use Rattle.residual_net.proofs.Kept.{kept_of}
use Rattle.residual_net.proofs.Walks.{start_open}
use Rattle.residual_net.proofs.net.Net.start.Goals as goal

pub returns-clause-open : goal.returns-clause-open
returns-clause-open c h =
    let net = (kept_of c.self.view_is c.self.invariant).stored.net in
    rw (c.start.ensures, c.self.view_is) (start_open c.args.self.now c.args.step net c.requires h)
