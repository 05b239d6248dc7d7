use Rattle.std.proofs.Common.{◌∙◌, sym}
use Rattle.evac_law.proofs.MoveLemmas.{moved-moves_of}
use Rattle.residual_net.specs.declared.place.Place.TheVariants.{Arc}
use Rattle.residual_net.specs.Site.{arc_count}
use Rattle.residual_net.specs.Network.{flow_at}
use Rattle.residual_net.proofs.standing.NetStanding.moved.Goals as goal

pub returns : goal.returns
returns c =
    let w = c.args.self.now in
    c.moved.ensures
    ∙ sym (moved-moves_of (arc_count w.site) w.site.shape.horizon (λ a t. flow_at w (Arc a t)) c.args.arc c.args.moment c.requires.arc_in c.requires.moment_in)
