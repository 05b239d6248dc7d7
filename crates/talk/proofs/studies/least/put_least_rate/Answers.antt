use Rattle.std.proofs.Common.{◌+◌, arith}
use Rattle.talk.proofs.studies.least.put_least_rate.Goals as goal

pub returns-in-Rate-clause-counted : goal.returns-in-Rate-clause-counted
returns-in-Rate-clause-counted g c =
    let e = c.in-Rate.ensures.counted in
    let b = c.put_rate.ensures.counted in (e.0 + b.0, omega (arith, e.1, b.1))

pub returns-in-Never-clause-counted : goal.returns-in-Never-clause-counted
returns-in-Never-clause-counted g c =
    let e = c.in-Never.ensures.counted in
    let b = c.put_no_rate.ensures.counted in (e.0 + b.0, omega (arith, e.1, b.1))
