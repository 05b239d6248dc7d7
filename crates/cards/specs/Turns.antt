-- Whose turn it is to come in from nowhere.
use Rattle.std.specs.Prelude.{◌≡◌, ℕ, ◌+◌, ◌<◌, ◌≤◌, ◌⊎◌, length}
use Rattle.evac_law.specs.declared.model.Model.{Model}
use Rattle.evac_law.specs.Building.{entry}
use Rattle.cards.specs.declared.turn.Turn.{Turn}
use Rattle.cards.specs.Numbers.{dealt_before}

-- a turn has the number of those who come in before
pub record IsTurn (m : Model) (t : Turn) : Type 0 where
  pub moment_in : t.moment ≤ m.horizon
  pub before : t.before ≡ dealt_before m t.node t.moment

-- one turn is after another: at the next moment, or at the first one of the next node
pub record IsAfter (m : Model) (t u : Turn) : Type 0 where
  pub next : ((u.node ≡ t.node) × (u.moment ≡ t.moment + 1)) ⊎ ((u.node ≡ t.node + 1) × (t.moment ≡ m.horizon) × (u.moment ≡ 0))

-- a person comes in at a turn
pub record IsTurnOf (m : Model) (person : ℕ) (t : Turn) : Type 0 where
  pub turn : IsTurn m t
  pub node_in : t.node < length m.nodes
  pub not_before : t.before ≤ person
  pub one_of : person < t.before + entry m t.node t.moment
