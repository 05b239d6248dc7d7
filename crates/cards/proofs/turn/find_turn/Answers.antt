use Rattle.std.proofs.Common.{arith}
use Rattle.cards.proofs.Turning.{dealt_small, falls, turn_in}
use Rattle.cards.proofs.turn.find_turn.Goals as goal

pub loop-turn-init : goal.loop-turn-init
loop-turn-init c = grind (arith, turn_in)

pub overflow_add-turn : goal.overflow_add-turn
overflow_add-turn c = grind (arith, dealt_small)

pub loop-turn-preserved : goal.loop-turn-preserved
loop-turn-preserved c = grind (arith, turn_in)

pub loop-turn-smaller : goal.loop-turn-smaller
loop-turn-smaller c =
    let t = c.loop-turn.turn in
    let u = c.turn_after-turn.result in
    let here = c.loop-turn.invariant in
    falls _ c.args.model.now.horizon t.node t.moment u.node u.moment here.node_in here.turn.moment_in c.turn_after-turn.ensures.turn.moment_in
    c.turn_after-turn.ensures.later.next
