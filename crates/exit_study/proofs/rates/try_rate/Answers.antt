use Rattle.exit_study.proofs.Trying.{tried_told}
use Rattle.exit_study.proofs.rates.try_rate.Goals as goal

pub returns-in-Ok-clause-tried : goal.returns-in-Ok-clause-tried
returns-in-Ok-clause-tried g c =
    let ends = c.in-Ok.ensures.ends in
    tried_told c.args.arc c.args.by c.args.rate c.requires.by ends.2.0
