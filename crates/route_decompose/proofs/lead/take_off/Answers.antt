use Rattle.std.proofs.Common.{arith}
use Rattle.evac_law.specs.Limits.{horizon_limit}
use Rattle.route_decompose.proofs.Laying.{came_in_time, leads_still, step_arc_in, step_enough, step_may_stay, step_moment_in, taken_begins, taken_on}
use Rattle.route_decompose.proofs.lead.take_off.Goals as goal

pub loop-index-init : goal.loop-index-init
loop-index-init c = taken_begins c.args.store.now c.args.node c.args.moment c.args.people c.args.steps.now c.requires.left c.requires.way

pub stop_before-here-requires-clause-leads : goal.stop_before-here-requires-clause-leads
stop_before-here-requires-clause-leads c = leads_still c.requires.left c.requires.way c.loop-index.invariant c.loop-index-test.true

pub take_left-requires-clause-arc_in : goal.take_left-requires-clause-arc_in
take_left-requires-clause-arc_in c = step_arc_in c.requires.left c.requires.way c.loop-index.invariant c.loop-index-test.true

pub take_left-requires-clause-moment_in : goal.take_left-requires-clause-moment_in
take_left-requires-clause-moment_in c = step_moment_in c.requires.left c.requires.way c.loop-index.invariant c.loop-index-test.true

pub take_left-requires-clause-enough : goal.take_left-requires-clause-enough
take_left-requires-clause-enough c = step_enough c.requires.left c.requires.way c.loop-index.invariant c.loop-index-test.true

pub take_stay-requires : goal.take_stay-requires
take_stay-requires c =
    step_may_stay c.requires.left c.requires.way c.loop-index.invariant c.loop-index-test.true c.take_left.new.self c.take_left.ensures c.requires.some
    c.stop_before-here.result.0 c.stop_before-here.result.1 c.stop_before-here.ensures.node c.stop_before-here.ensures.moment

pub loop-index-preserved : goal.loop-index-preserved
loop-index-preserved c =
    taken_on c.requires.left c.requires.way c.loop-index.invariant c.loop-index-test.true c.take_left.new.self c.take_left.ensures c.requires.some
    c.stop_before-here.result.0 c.stop_before-here.result.1 c.stop_before-here.ensures.node c.stop_before-here.ensures.moment c.take_stay.new.store c.take_stay.ensures

pub stop_before-here-requires-clause-in_time : goal.stop_before-here-requires-clause-in_time
unfolding horizon_limit
stop_before-here-requires-clause-in_time c = grind (arith, came_in_time)
