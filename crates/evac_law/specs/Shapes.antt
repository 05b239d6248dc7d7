-- What no edit changes: the names, the ends and traversal times of the arcs, the horizon, the period and the entrants.
use Rattle.std.specs.Prelude.{◌≡◌, ℕ, map}
use Rattle.evac_law.specs.declared.model.ArcRow.{ArcRow}
use Rattle.evac_law.specs.declared.model.Model.{Model}
use Rattle.evac_law.specs.declared.model.NodeRow.{NodeRow}
use Rattle.evac_law.specs.declared.name.NodeName.{NodeName}

-- the name of a node
abbrev pub name_of_row : NodeRow → NodeName
name_of_row n = n.name

-- the ends and the traversal time of an arc
abbrev pub way_of_row : ArcRow → ℕ × ℕ × ℕ
way_of_row a = (a.from, a.to, a.travel)

-- two models have the same names, the same arcs with the same traversal times, one horizon, one period and the same entrants
pub record HasSameShape (m m' : Model) : Type 0 where
  pub names : map name_of_row m'.nodes ≡ map name_of_row m.nodes
  pub ways : map way_of_row m'.arcs ≡ map way_of_row m.arcs
  pub horizon : m'.horizon ≡ m.horizon
  pub seconds : m'.seconds ≡ m.seconds
  pub entrants : m'.entrants ≡ m.entrants
