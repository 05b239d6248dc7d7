use Rattle.residual_net.proofs.Begin.{valid_site}
use Rattle.residual_net.proofs.start.shape_of.Goals as goal

pub new-requires : goal.new-requires
new-requires c = rw (c.node_count.ensures.count, c.as_slice.ensures.value, c.in_ok-ends.ensures) (valid_site c.args.model.now c.requires).shape
