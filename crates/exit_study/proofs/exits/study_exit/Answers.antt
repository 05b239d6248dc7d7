use Rattle.exit_study.proofs.Trying.{exit_tried}
use Rattle.exit_study.proofs.exits.study_exit.Goals as goal

pub returns-in-Ok-clause-row : goal.returns-in-Ok-clause-row
returns-in-Ok-clause-row g c =
    let ends = c.in-Ok.ensures.ends in exit_tried c.args.node ends.2.0
