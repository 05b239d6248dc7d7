use Rattle.plan_checker.proofs.LawLemmas.{optimal_where_yes, yes_where_right}
use Rattle.plan_checker.proofs.checker.check.Goals as goal

pub returns-clause-yes : goal.returns-clause-yes
returns-clause-yes c = yes_where_right c.args.model.now c.args.block.now _ c.requires.valid c.requires.block c.first_failing.ensures

pub returns-clause-optimal : goal.returns-clause-optimal
returns-clause-optimal c = optimal_where_yes c.args.model.now c.args.block.now _ c.requires.valid c.requires.block c.first_failing.ensures
