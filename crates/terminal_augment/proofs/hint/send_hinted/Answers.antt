use Rattle.std.proofs.Common.{◌+◌, ◌<◌, refl, arith}
use Rattle.residual_net.specs.Legs.{steps_of_legs}
use Rattle.residual_net.specs.Limits.{supply_limit}
use Rattle.terminal_augment.specs.Settled.{IsCountedOn}
use Rattle.terminal_augment.proofs.BufferLemmas.{marks_with}
use Rattle.terminal_augment.proofs.HintLemmas.{carried_pushed}
use Rattle.terminal_augment.proofs.SendLemmas.{counted_more, counted_none, few_by}
use Rattle.terminal_augment.proofs.hint.send_hinted.Goals as goal

pub loop-buffers-init : goal.loop-buffers-init
loop-buffers-init g c = grind (arith, counted_none)

pub overflow_add-pushes : goal.overflow_add-pushes
unfolding supply_limit
overflow_add-pushes g c =
    let old = c.loop-buffers.invariant.counted.pushed in
    omega (arith, old.sent.risen, few_by c.loop-buffers.net c.args.k old.net)

pub returns-then-people-eq0-clause-buffers : goal.returns-then-people-eq0-clause-buffers
returns-then-people-eq0-clause-buffers g c =
    λ n h x. marks_with _ c.clear.ensures.marks c.clear.ensures.nodes c.clear.ensures.horizon c.carried-people.ensures.marks (c.loop-buffers.invariant.buffers n h x)

pub loop-buffers-preserved : goal.loop-buffers-preserved
loop-buffers-preserved g c =
    let old = c.loop-buffers.invariant in
    let some : 0 < c.carried-people.result = omega (arith, c.if-people-eq0.false) in
    let path = steps_of_legs c.loop-buffers.net.site c.lay-legs.result.now in
    let pushed = carried_pushed c.args.k c.push_legs.ensures.net c.push_legs.ensures.within some
    (c.carried-people.ensures.path some) c.push_legs.ensures.pushed in
    let next : IsCountedOn c.loop-buffers.net c.push_legs.new.self c.args.k 1 c.loop-buffers.steps c.push_legs.new.steps = record { pushed = pushed; ticked = c.push_legs.ensures.ticked } in
    record {
      buffers = λ n h x. marks_with _ c.clear.ensures.marks c.clear.ensures.nodes c.clear.ensures.horizon c.carried-people.ensures.marks (old.buffers n h x);
      counted = counted_more (c.loop-buffers.pushes + 1) old.counted next refl;
    }

pub carried-people-requires-clause-marks : goal.carried-people-requires-clause-marks
carried-people-requires-clause-marks g c = grind arith

pub loop-buffers-smaller : goal.loop-buffers-smaller
loop-buffers-smaller g c =
    let some : 0 < c.carried-people.result = omega (arith, c.if-people-eq0.false) in
    let path = steps_of_legs c.loop-buffers.net.site c.lay-legs.result.now in
    let pushed = carried_pushed c.args.k c.push_legs.ensures.net c.push_legs.ensures.within some
    (c.carried-people.ensures.path some) c.push_legs.ensures.pushed in
    omega (arith, pushed.sent.risen, few_by c.push_legs.new.self c.args.k c.push_legs.ensures.net)
