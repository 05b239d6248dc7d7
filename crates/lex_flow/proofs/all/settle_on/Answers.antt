use Rattle.std.proofs.Common.{arith, ap, sym, ◌∙◌}
use Rattle.residual_net.specs.Limits.{supply_limit}
use Rattle.residual_net.specs.Site.{Site}
use Rattle.std.proofs.lemmas.Bool.{iff_false}
use Rattle.lex_flow.proofs.SettleLemmas.{below_few, settled_begins, settled_more}
use Rattle.terminal_augment.proofs.SendLemmas.{horizon_small}
use Rattle.lex_flow.proofs.UnsetLemmas.{full_before}
use Rattle.lex_flow.proofs.all.settle_on.Goals as goal

pub loop-next-init : goal.loop-next-init
loop-next-init g c = record {
  settled = rw c.unset_from.ensures.unset
      (settled_begins c.args.net.now c.args.labels.now c.args.from c.shape.ensures.net c.requires.within c.requires.labels
      (full_before c.args.labels.now c.unset_from.new.self c.args.from c.unset_from.ensures.unset c.unset_from.ensures.table.full) c.requires.from c.requires.closed);
  horizon = cc;
  next = grind arith;
  search = c.renew.ensures;
  ticked = omega arith;
}

pub loop-next-preserved : goal.loop-next-preserved
loop-next-preserved g c =
    let old = c.loop-next.invariant in
    let here = c.settle.ensures in
    record {
      settled = settled_more c.args.net.now c.loop-next.net c.settle.new.net c.args.labels.now c.loop-next.labels c.settle.new.labels c.args.from c.loop-next.next
          c.loop-next.pushes c.settle.result _ _ old.settled (iff_false c.is_over.ensures c.if-not-is_over.true) (omega (arith, c.loop-next-test.true, old.horizon))
          here.counted here.labels here.closed;
      horizon = old.horizon ∙ ap (λ (s : Site). s.shape.horizon) (sym here.counted.pushed.limits.site);
      next = omega (arith, c.loop-next-test.true);
      search = here.search ∙ old.search;
      ticked = omega (arith, old.ticked, here.counted.ticked);
    }

pub overflow_add-pushes : goal.overflow_add-pushes
unfolding supply_limit
overflow_add-pushes g c =
    let w = c.loop-next.net in
    let old = c.loop-next.invariant in
    omega (arith, old.settled.bounded, below_few w c.loop-next.next old.settled.net, old.next, old.horizon, horizon_small w old.settled.net)

pub overflow_add-next : goal.overflow_add-next
overflow_add-next g c =
    let old = c.loop-next.invariant in
    omega (arith, c.loop-next-test.true, old.horizon, horizon_small c.loop-next.net old.settled.net)
