-- What is kept of a plan: the plan as a table of moves, and tables of sums.
use Rattle.std.specs.Prelude.{◌≡◌, ℕ, ◌<◌, ◌≤◌, ◌^◌, List, length}
use Rattle.evac_law.specs.declared.model.Model.{Model}
use Rattle.evac_law.specs.declared.plan.Move.{Move}
use Rattle.plan_layout.specs.Tables.{PeopleTable, people_at}

-- a plan of a model
pub record PlanView : Type 0 where
  pub model : Model
  pub moves : List Move

-- the numbers of a table can be added up
abbrev pub IsSumTable : PeopleTable → Type 0
IsSumTable c = (n t : ℕ) → people_at c n t < 2 ^ 62

-- a table has a row for each node of a model, up to its horizon
pub record IsByNode (m : Model) (c : PeopleTable) : Type 0 where
  pub rows : c.rows ≡ length m.nodes
  pub last : c.last ≡ m.horizon

-- it has these numbers, by node and moment
abbrev pub HasNumbers : Model → PeopleTable → (ℕ → ℕ → ℕ) → Type 0
HasNumbers m c f = (n t : ℕ) → n < length m.nodes → t ≤ m.horizon → people_at c n t ≡ f n t
