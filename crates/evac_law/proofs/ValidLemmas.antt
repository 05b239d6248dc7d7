-- What a valid model says of the node and the arc at a place.
use Rattle.std.proofs.Common.{ℕ, ◌<◌, ◌^◌, length, arith}
use Rattle.evac_law.specs.Building.{IsArc, IsNode, IsValid, arc_at, head, no_arc, no_node, node_at, tail}
use Rattle.evac_law.specs.Limits.{horizon_limit, travel_limit}
use Rattle.evac_law.specs.Names.{IsName}
use Rattle.evac_law.specs.declared.model.Model.{Model}

pub node_is : (m : Model) (n : ℕ) → IsValid m → n < length m.nodes → IsNode (node_at m n)
node_is m n v l = v.nodes n no_node l

pub arc_is : (m : Model) (a : ℕ) → IsValid m → a < length m.arcs → IsArc m.nodes (arc_at m a)
arc_is m a v l = v.arcs a no_arc l

pub name_is : (m : Model) (n : ℕ) → IsValid m → n < length m.nodes → IsName (node_at m n).name
name_is m n v l = (node_is m n v l).name

pub tail_in : (m : Model) (a : ℕ) → IsValid m → a < length m.arcs → tail m a < length m.nodes
tail_in m a v l = (arc_is m a v l).from_in

pub head_in : (m : Model) (a : ℕ) → IsValid m → a < length m.arcs → head m a < length m.nodes
head_in m a v l = (arc_is m a v l).to_in

-- moments up to the horizon, and arrivals of who enters an arc by then, fit 16 bits
pub horizon_small : (m : Model) → IsValid m → m.horizon < 2 ^ 15
unfolding horizon_limit
horizon_small m v = omega (arith, v.horizon)

pub travel_small : (m : Model) (a : ℕ) → IsValid m → a < length m.arcs → (arc_at m a).travel < 2 ^ 15
unfolding travel_limit
travel_small m a v l = omega (arith, (arc_is m a v l).travel_fits.1)

pub ruleset valid_parts = (node_is, arc_is, name_is, tail_in, head_in, horizon_small, travel_small)
