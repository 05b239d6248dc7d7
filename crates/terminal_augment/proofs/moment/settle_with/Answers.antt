use Rattle.std.proofs.Common.{◌+◌, arith, refl}
use Rattle.residual_net.specs.Limits.{supply_limit}
use Rattle.terminal_augment.proofs.ClosedLemmas.{alike_then, labelled_alike, settled_alike}
use Rattle.terminal_augment.proofs.SendLemmas.{counted_more, counted_none, few_by, settled_pushed}
use Rattle.terminal_augment.proofs.BufferLemmas.{buffers_kept, buffers_with, queue_with}
use Rattle.terminal_augment.proofs.moment.settle_with.Goals as goal

pub loop-found-init : goal.loop-found-init
loop-found-init g c =
    let alike = c.if-is_over.ensures.alike refl in
    let pushed = c.send_hinted-pushes.ensures.counted.pushed in
    record {
      settled = settled_pushed pushed (settled_alike c.shape.ensures.net alike c.requires.settled);
      alike = alike;
      buffers = buffers_kept pushed (λ n h x. c.send_hinted-pushes.ensures.buffers n h (buffers_with c.begin.new.self (c.is_over.ensures.buffers n h x))) c.requires.buffers;
      counted = c.send_hinted-pushes.ensures.counted;
    }

pub returns-then-is_over-clause-counted : goal.returns-then-is_over-clause-counted
returns-then-is_over-clause-counted g c = counted_none c.args.k c.args.steps.now c.shape.ensures.net c.requires.settled.within

pub returns-then-is_over-clause-labels : goal.returns-then-is_over-clause-labels
returns-then-is_over-clause-labels g c = (c.if-is_over.ensures.over refl).labels

pub returns-then-is_over-clause-closed : goal.returns-then-is_over-clause-closed
returns-then-is_over-clause-closed g c = (c.if-is_over.ensures.over refl).closed

pub returns-then-is_over-clause-buffers : goal.returns-then-is_over-clause-buffers
returns-then-is_over-clause-buffers g c = c.is_over.ensures.buffers _ _ c.requires.buffers

pub send_hinted-pushes-requires-clause-buffers : goal.send_hinted-pushes-requires-clause-buffers
send_hinted-pushes-requires-clause-buffers g c = buffers_with c.begin.new.self (c.is_over.ensures.buffers _ _ c.requires.buffers)

pub close-requires-clause-net : goal.close-requires-clause-net
close-requires-clause-net g c = c.loop-found.invariant.counted.pushed.net

pub close-requires-clause-settled : goal.close-requires-clause-settled
close-requires-clause-settled g c = c.loop-found.invariant.settled

pub close-requires-clause-room : goal.close-requires-clause-room
close-requires-clause-room g c = c.loop-found.invariant.buffers.queue

pub send_found-requires-clause-within : goal.send_found-requires-clause-within
send_found-requires-clause-within g c = c.loop-found.invariant.settled.within

pub send_found-requires-clause-space : goal.send_found-requires-clause-space
send_found-requires-clause-space g c = omega (arith, c.in-Some.ensures.few, c.close.ensures.room, c.loop-found.invariant.buffers.path)

pub send_found-requires-clause-met : goal.send_found-requires-clause-met
send_found-requires-clause-met g c = c.in-Some.ensures.flooded.met

pub send_found-requires-clause-found : goal.send_found-requires-clause-found
send_found-requires-clause-found g c = c.in-Some.ensures.flooded.found

pub send_hinted-requires-clause-net : goal.send_hinted-requires-clause-net
send_hinted-requires-clause-net g c = c.send_found.ensures.counted.pushed.net

pub send_hinted-requires-clause-within : goal.send_hinted-requires-clause-within
send_hinted-requires-clause-within g c = c.send_found.ensures.counted.pushed.within

pub send_hinted-requires-clause-buffers : goal.send_hinted-requires-clause-buffers
send_hinted-requires-clause-buffers g c =
    buffers_with c.miss.new.self (buffers_kept c.send_found.ensures.counted.pushed (λ n h x. c.send_found.ensures.buffers n h (queue_with c.close.ensures.room x)) c.loop-found.invariant.buffers)

pub returns-clause-counted : goal.returns-clause-counted
returns-clause-counted g c = c.loop-found.invariant.counted

pub returns-clause-closed : goal.returns-clause-closed
returns-clause-closed g c = c.in_default.ensures.flooded.closed

pub returns-clause-buffers : goal.returns-clause-buffers
returns-clause-buffers g c = queue_with c.close.ensures.room c.loop-found.invariant.buffers

pub loop-found-preserved : goal.loop-found-preserved
loop-found-preserved g c =
    let old = c.loop-found.invariant in
    let meeting = c.in-Some.ensures.flooded in
    let both = counted_more (1 + c.send_hinted.result) c.send_found.ensures.counted c.send_hinted.ensures.counted refl in
    record {
      settled = settled_pushed both.pushed (settled_alike old.counted.pushed.net meeting.alike old.settled);
      alike = alike_then old.alike meeting.alike;
      buffers = buffers_kept both.pushed
          (λ n h x. c.send_hinted.ensures.buffers n h (buffers_with c.miss.new.self (c.send_found.ensures.buffers n h (queue_with c.close.ensures.room x)))) old.buffers;
      counted = counted_more (c.loop-found.pushes + (1 + c.send_hinted.result)) old.counted both refl;
    }

pub overflow_add-pushes : goal.overflow_add-pushes
unfolding supply_limit
overflow_add-pushes g c =
    let next = c.send_hinted.ensures.counted.pushed in
    omega (arith, next.sent.risen, few_by c.send_hinted.new.net c.args.k next.net)

pub overflow_add-pushes-in-Some : goal.overflow_add-pushes-in-Some
unfolding supply_limit
overflow_add-pushes-in-Some g c =
    let old = c.loop-found.invariant.counted.pushed in
    let one = c.send_found.ensures.counted.pushed in
    let next = c.send_hinted.ensures.counted.pushed in
    omega (arith, old.sent.risen, one.sent.risen, next.sent.risen, few_by c.send_hinted.new.net c.args.k next.net)

pub loop-found-smaller : goal.loop-found-smaller
loop-found-smaller g c =
    let one = c.send_found.ensures.counted.pushed in
    let next = c.send_hinted.ensures.counted.pushed in
    omega (arith, one.sent.risen, next.sent.risen, few_by c.send_hinted.new.net c.args.k next.net)

pub returns-clause-labels : goal.returns-clause-labels
returns-clause-labels g c = labelled_alike c.loop-found.invariant.alike c.in_default.ensures.flooded.labels
