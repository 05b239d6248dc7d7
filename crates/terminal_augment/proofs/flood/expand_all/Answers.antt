use Rattle.std.proofs.Common.{◌<◌, length, subst, arith}
use Rattle.terminal_augment.specs.declared.spot.Met.{Met}
use Rattle.terminal_augment.specs.Floods.{IsExpanded}
use Rattle.terminal_augment.proofs.FloodLemmas.{expanded_more, grown_then, has_each, inside_each}
use Rattle.terminal_augment.proofs.flood.expand_all.Goals as goal

pub expand-requires-clause-inside : goal.expand-requires-clause-inside
expand-requires-clause-inside c =
    inside_each c.args.net.now c.args.k c.loop-front.queue.list c.loop-front.invariant.flooding.met c.get.ensures (omega (arith, c.loop-front-test.true, c.len.ensures))

pub expand-requires-clause-met : goal.expand-requires-clause-met
expand-requires-clause-met c = has_each c.loop-front.queue.list c.get.ensures (omega (arith, c.loop-front-test.true, c.len.ensures))

pub loop-front-preserved : goal.loop-front-preserved
loop-front-preserved c =
    let old = c.loop-front.invariant in
    let grown = c.expand.ensures.grown in
    let some : c.loop-front.front < length c.loop-front.queue.list = omega (arith, c.loop-front-test.true, c.len.ensures) in
    record {
      flooding = c.expand.ensures.flooding;
      grown = grown_then old.grown grown;
      fits = omega (arith, grown.more, some);
      expanded = expanded_more c.args.net.now c.loop-front.front c.get.result grown some old.expanded
          (subst (λ (z : Met). IsExpanded c.args.net.now c.expand.new.labels c.args.k z.spot.node z.spot.moment) c.get.ensures c.in_default.ensures.found);
    }
