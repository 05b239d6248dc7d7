-- What is left of a building once a plan is carried out up to a moment.
use Rattle.std.specs.Prelude.{ℕ, ◌+◌, ◌||◌, if◌then◌else◌, ◌==◌, nat_lt, List, length, map}
use Rattle.evac_law.specs.declared.model.Model.{Model}
use Rattle.evac_law.specs.declared.model.NodeRow.{NodeRow}
use Rattle.evac_law.specs.declared.plan.Move.{Move}
use Rattle.evac_law.specs.Building.{is_exit_at, entry}
use Rattle.evac_law.specs.Entrants.{table_entrants}
use Rattle.evac_law.specs.Plans.{coming, inside}
use Rattle.replan.specs.Committed.{moves_before}

-- who comes into a node at a moment, once a plan's moves before s are made: at s whoever is in the node then, and later whoever comes from nowhere
-- or along an arc entered before s; nobody comes into an exit
abbrev pub rest_entry : Model → List Move → ℕ → ℕ → ℕ → ℕ
rest_entry m p s n t =
    if is_exit_at m n || nat_lt t s then 0
    else if t == s then inside m p n s
    else entry m n t + coming m (moves_before s p) n t

-- a node in which nobody starts
abbrev pub without_start : NodeRow → NodeRow
without_start n = record n { start = 0 }

-- what is left of a building once a plan's moves before s are made: its nodes, in which nobody starts, and whoever comes into them from s on
abbrev pub rest : Model → List Move → ℕ → Model
rest m p s = record m {
  nodes = map without_start m.nodes;
  entrants = table_entrants (length m.nodes) m.horizon (rest_entry m p s);
}
