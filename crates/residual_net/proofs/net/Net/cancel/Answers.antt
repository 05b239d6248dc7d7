use Rattle.std.proofs.Common.{arith}
use Rattle.residual_net.proofs.Kept.{kept_moved}
use Rattle.residual_net.proofs.net.Net.cancel.Goals as goal

pub take_all-requires-clause-path : goal.take_all-requires-clause-path
take_all-requires-clause-path g c = grind arith

pub lower_arrivals-requires : goal.lower_arrivals-requires
lower_arrivals-requires g c = grind arith

pub returns-clause-cancelled : goal.returns-clause-cancelled
returns-clause-cancelled g c = grind arith

pub returns-clause-net : goal.returns-clause-net
returns-clause-net g c = c.lower_arrivals.ensures.net

pub invariant_of-self : goal.invariant_of-self
invariant_of-self g c =
    let taken = c.take_all.ensures.taken in
    kept_moved c.self.invariant taken.site taken.saved taken.limits c.lower_arrivals.ensures c.self.inside.arrivals.ok.0
