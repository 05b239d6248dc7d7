-- The network of a model, and models of one building.
use Rattle.std.specs.Prelude.{◌≡◌, length, map}
use Rattle.evac_law.specs.declared.model.ArcRow.{ArcRow}
use Rattle.evac_law.specs.declared.model.Model.{Model}
use Rattle.time_expansion.specs.declared.ends.Ends.{Ends}
use Rattle.time_expansion.specs.Expansion.{Expansion}

-- the ends of an arc
abbrev pub ends_of : ArcRow → Ends
ends_of a = record { from = a.from; to = a.to }

-- the network of a model
abbrev pub shape_of : Model → Expansion
shape_of m = record { nodes = length m.nodes; ends = map ends_of m.arcs; horizon = m.horizon }

-- another model of the same building: only capacities, starts, rates, windows and marks may differ
pub record IsSameSite (m o : Model) : Type 0 where
  pub horizon : m.horizon ≡ o.horizon
  pub nodes : length m.nodes ≡ length o.nodes
  pub ends : map ends_of m.arcs ≡ map ends_of o.arcs
  pub entrants : m.entrants ≡ o.entrants
