use Rattle.std.proofs.Common.{◌+◌, ◌*◌, ◌^◌, length, arith}
use Rattle.evac_law.specs.Limits.{arc_limit}
use Rattle.cut_witness.specs.Shares.{arc_shares}
use Rattle.cut_witness.proofs.Nets.{raised_end, raised_step}
use Rattle.cut_witness.proofs.all_cuts.add_arcs.Goals as goal

pub loop-arc-preserved : goal.loop-arc-preserved
loop-arc-preserved c =
    raised_step (arc_shares c.args.model.now c.args.labels.now) c.loop-arc.arc (2 ^ 49) ((c.loop-arc.arc + 1) * 2 ^ 49) c.loop-arc.invariant c.add_arcs_of.ensures
    (omega arith)

pub returns : goal.returns
unfolding arc_limit
returns c =
    raised_end (arc_shares c.args.model.now c.args.labels.now) c.loop-arc.arc (length c.args.model.now.arcs) (arc_limit * 2 ^ 49) (omega arith) (omega arith)
    (omega (arith, c.requires.summable.valid.arcs_fit)) c.loop-arc.invariant
