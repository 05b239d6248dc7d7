use Rattle.std.proofs.Common.{cond, ltb, arith, None}
use Rattle.evac_law.specs.Building.{is_exit_at}
use Rattle.clearing_report.specs.Clearing.{last_that}
use Rattle.clearing_report.proofs.MomentLemmas.{put_next}
use Rattle.clearing_report.proofs.moments.write_held.Goals as goal

pub loop-node-preserved : goal.loop-node-preserved
loop-node-preserved g c =
    let m = c.args.model.now in
    let f = g.F.Standing.stand c.args.standing.now in
    put_next (λ n. cond (is_exit_at m n) None (last_that (λ t. ltb 0 (f.contents n t)) m.horizon)) c.loop-node.moments c.loop-node.node c.held_moment.result
    (omega (arith, c.loop-node-test.true, c.node_count-node-end.ensures.count, c.loop-node.auto.moments, c.requires.size)) c.held_moment.ensures c.loop-node.invariant
