use Rattle.std.proofs.Common.{arith}
use Rattle.residual_net.specs.Limits.{supply_limit}
use Rattle.residual_net.proofs.Kept.{kept_of, supplies_stay, supplies_then}
use Rattle.residual_net.proofs.net.Net.supplies_with.Goals as goal

pub overflow_sub-result : goal.overflow_sub-result
overflow_sub-result c =
    (supplies_then c.args.self.now c.args.people c.in-Supply.is c.requires.place (kept_of c.self.view_is c.self.invariant).counted c.limit.ensures).0

pub overflow_add-result : goal.overflow_add-result
unfolding supply_limit
overflow_add-result c = grind (arith, supplies_then, kept_of)

pub returns-in-Supply : goal.returns-in-Supply
returns-in-Supply c = grind (arith, supplies_then, kept_of)

pub returns-in-Arc : goal.returns-in-Arc
returns-in-Arc c = grind (arith, kept_of, supplies_stay)
