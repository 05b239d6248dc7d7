use Rattle.std.proofs.Common.{ap, ◌∙◌}
use Rattle.residual_net.specs.Network.{arrived_by}
use Rattle.residual_net.proofs.Kept.{kept_of}
use Rattle.residual_net.proofs.SentLemmas.{sent_counted}
use Rattle.residual_net.proofs.net.Net.is_all_sent.Goals as goal

pub returns : goal.returns
returns c =
    let w = c.args.self.now in
    let kept = kept_of c.self.view_is c.self.invariant in
    sent_counted w kept.stored.net c.requires c.arrived.result c.self.inside.supplies (c.arrived.ensures ∙ ap (arrived_by w) c.horizon.ensures) kept.counted
