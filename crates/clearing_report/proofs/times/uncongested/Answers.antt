use Rattle.clearing_report.proofs.Reach.{some_walk}
use Rattle.clearing_report.proofs.times.uncongested.Goals as goal

pub returns-in-None-clause-time : goal.returns-in-None-clause-time
returns-in-None-clause-time c =
    let none = c.in-None.ensures.bound in
    let clear = c.requires.clearable in
    absurd (some_walk c.args.model.now c.requires.valid clear.0 clear.1 clear.2 none.0 none.1 none.2)
