use Rattle.std.proofs.Common.{◌-◌, arith}
use Rattle.evac_law.specs.Limits.{rate_limit}
use Rattle.exit_study.proofs.Trying.{search_least, search_none}
use Rattle.exit_study.proofs.rates.least_rate.Goals as goal

pub returns-then-low-gt-RATE_LIMIT-clause-least : goal.returns-then-low-gt-RATE_LIMIT-clause-least
unfolding rate_limit
returns-then-low-gt-RATE_LIMIT-clause-least g c =
    let l = c.loop-low in
    search_none c.args.session.now.state.model c.args.arc c.args.by c.first_range-low.ensures.valid c.requires.arc c.requires.by l.low l.high (omega arith) l.invariant.search

pub returns-then-low-gt-RATE_LIMIT-clause-counted : goal.returns-then-low-gt-RATE_LIMIT-clause-counted
returns-then-low-gt-RATE_LIMIT-clause-counted g c = (c.loop-low.steps - c.args.steps.now, omega (arith, c.loop-low.invariant.grows))

pub returns-else-low-gt-RATE_LIMIT-clause-least : goal.returns-else-low-gt-RATE_LIMIT-clause-least
unfolding rate_limit
returns-else-low-gt-RATE_LIMIT-clause-least g c =
    let l = c.loop-low in
    search_least c.args.session.now.state.model c.args.arc c.args.by c.first_range-low.ensures.valid c.requires.arc c.requires.by l.low l.high (omega arith) (omega arith) l.invariant.search

pub returns-else-low-gt-RATE_LIMIT-clause-counted : goal.returns-else-low-gt-RATE_LIMIT-clause-counted
returns-else-low-gt-RATE_LIMIT-clause-counted g c = (c.loop-low.steps - c.args.steps.now, omega (arith, c.loop-low.invariant.grows))
