use Rattle.std.proofs.Common.{◌∙◌}
use Rattle.std.proofs.lemmas.List.{take_all, take_more}
use Rattle.plan_layout.proofs.layout.copy_arcs.Goals as goal

pub loop-arc-preserved : goal.loop-arc-preserved
loop-arc-preserved c =
    let more = take_more c.args.arcs.now c.loop-arc.arc-index c.arc-item.result c.loop-arc-test.true in
    cc c.in_ok-push.ensures.items

pub returns : goal.returns
returns c = c.loop-arc.invariant ∙ take_all c.loop-arc.arc-index c.args.arcs.now c.loop-arc-test.false
