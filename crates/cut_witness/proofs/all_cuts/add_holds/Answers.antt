use Rattle.std.proofs.Common.{◌+◌, ◌*◌, ◌^◌, length, arith}
use Rattle.evac_law.specs.Limits.{node_limit}
use Rattle.cut_witness.specs.Shares.{hold_shares}
use Rattle.cut_witness.proofs.Nets.{raised_end, raised_step}
use Rattle.cut_witness.proofs.all_cuts.add_holds.Goals as goal

pub loop-node-preserved : goal.loop-node-preserved
loop-node-preserved c =
    raised_step (hold_shares c.args.model.now c.args.labels.now) c.loop-node.node (2 ^ 49) ((c.loop-node.node + 1) * 2 ^ 49) c.loop-node.invariant c.add_holds_of.ensures
    (omega arith)

pub returns : goal.returns
unfolding node_limit
returns c =
    raised_end (hold_shares c.args.model.now c.args.labels.now) c.loop-node.node (length c.args.model.now.nodes) (node_limit * 2 ^ 49) (omega arith) (omega arith)
    (omega (arith, c.requires.summable.valid.nodes_fit)) c.loop-node.invariant
