-- Each valid model is small enough to be summed up plainly.
use Rattle.std.proofs.Common.{arith}
use Rattle.evac_law.specs.declared.model.Model.{Model}
use Rattle.evac_law.specs.Building.{IsValid, people}
use Rattle.evac_law.specs.Limits.{arc_limit, horizon_limit, node_limit, people_limit}
use Rattle.plain_plan.specs.Sizes.{IsSmall}

pub small : (m : Model) → IsValid m → IsSmall m
unfolding arc_limit horizon_limit node_limit people people_limit
small m valid = record {
  nodes = omega (arith, valid.nodes_fit);
  arcs = omega (arith, valid.arcs_fit);
  horizon = omega (arith, valid.horizon);
  entrants = omega (arith, valid.people_fit);
}
