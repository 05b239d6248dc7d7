use Rattle.std.proofs.Common.{arith}
use Rattle.time_expansion.proofs.Cells.{sizes}
use Rattle.residual_net.proofs.Kept.{stored_of}
use Rattle.residual_net.proofs.Last.{last_in, last_is}
use Rattle.residual_net.proofs.net.Net.last_arrival.Goals as goal

pub overflow_cast-result : goal.overflow_cast-result
overflow_cast-result c = grind (arith, stored_of, last_in, sizes)

pub returns-clause-last : goal.returns-clause-last
returns-clause-last c =
    let stored = stored_of c.self.view_is c.as_slice.ensures.value c.self.invariant in
    last_is c.args.self.now _ c.last_some.result stored c.last_some.ensures.some c.last_some.ensures.none_later
