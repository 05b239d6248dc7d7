use Rattle.std.proofs.Common.{◌-◌, arith}
use Rattle.evac_law.specs.Limits.{horizon_limit}
use Rattle.route_decompose.proofs.Laying.{step_in}
use Rattle.route_decompose.proofs.lead.stop_before.Goals as goal

pub head-requires : goal.head-requires
head-requires c = step_in c.args.store.now.model c.args.node c.args.moment c.args.steps.now (c.args.index - 1) c.requires.leads (omega (arith, c.requires.index_in))

pub travel-requires : goal.travel-requires
travel-requires c = step_in c.args.store.now.model c.args.node c.args.moment c.args.steps.now (c.args.index - 1) c.requires.leads (omega (arith, c.requires.index_in))

pub overflow_add-result : goal.overflow_add-result
unfolding horizon_limit
overflow_add-result c = grind arith
