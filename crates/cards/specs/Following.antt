-- Somebody followed by number, from coming to a node to leaving it, and on.
use Rattle.std.specs.Prelude.{◌≡◌, ℕ, ◌+◌, ◌-◌, ◌<◌, ◌≤◌, List, length}
use Rattle.evac_law.specs.declared.model.Model.{Model}
use Rattle.evac_law.specs.declared.plan.Move.{Move}
use Rattle.evac_law.specs.Building.{arrival, head, tail}
use Rattle.evac_law.specs.Plans.{came, moved}
use Rattle.cards.specs.declared.comer.Comer.{Comer}
use Rattle.cards.specs.declared.comer.Leaver.{Leaver}
use Rattle.cards.specs.declared.turn.Turn.{Turn}
use Rattle.cards.specs.Numbers.{IsCountedAt, comers_before, dealt_before, entrants_before, leavers_before}

-- somebody comes to a node at a moment, as the one of a number
pub record IsComer (m : Model) (p : List Move) (c : Comer) : Type 0 where
  pub node_in : c.node < length m.nodes
  pub in_time : c.moment ≤ m.horizon
  pub at : IsCountedAt (came m p c.node) c.number c.moment

-- who came as the one of a number leaves as the one of that number: by this arc at this moment, after some of those who enter it
pub record IsLeaver (m : Model) (p : List Move) (c : Comer) (l : Leaver) : Type 0 where
  pub arc_in : l.step.arc < length m.arcs
  pub from : tail m l.step.arc ≡ c.node
  pub number : leavers_before m p l.step.arc l.step.moment + l.behind ≡ c.number
  pub among : l.behind < moved p l.step.arc l.step.moment

-- who enters an arc comes to its head after as many of those who come out of it
pub record ComesOutAs (m : Model) (p : List Move) (l : Leaver) (c : Comer) : Type 0 where
  pub node : c.node ≡ head m l.step.arc
  pub moment : c.moment ≡ arrival m l.step.arc l.step.moment
  pub number : c.number ≡ comers_before m p l.step.arc (arrival m l.step.arc l.step.moment) + l.behind

-- a person who comes in at a turn comes after as many of those who come in then
pub record ComesInAs (m : Model) (p : List Move) (t : Turn) (person : ℕ) (c : Comer) : Type 0 where
  pub node : c.node ≡ t.node
  pub moment : c.moment ≡ t.moment
  pub number : c.number ≡ entrants_before m p t.node t.moment + (person - dealt_before m t.node t.moment)
