use Rattle.std.proofs.Common.{◌≡◌, ◌+◌, ◌∙◌, arith}
use Rattle.residual_net.specs.Limits.{supply_limit}
use Rattle.residual_net.proofs.Arrivals.{arrived_all, arrived_more}
use Rattle.residual_net.proofs.Kept.{stored_of}
use Rattle.residual_net.proofs.net.Net.arrived.Goals as goal

pub overflow_add-total : goal.overflow_add-total
unfolding supply_limit
overflow_add-total c =
    let stored = stored_of c.self.view_is c.as_slice-arrivals.ensures.value c.self.invariant in
    let more = arrived_more c.args.self.now _ c.loop-moment.total c.loop-moment.moment stored (omega (arith, c.requires, c.loop-moment-test.true)) c.loop-moment.invariant in
    record { fits = omega (arith, more.0) }

pub returns : goal.returns
returns c =
    let last : c.loop-moment.moment ≡ c.args.k + 1 = omega (arith, c.loop-moment-test.false, c.loop-moment.auto.moment-end) in
    (rw last at c.loop-moment.invariant) ∙ arrived_all c.args.self.now c.args.k
