use Rattle.std.proofs.Common.{◌≤◌, ◌<◌, ◌-◌, ◌+◌, ◌*◌, length}
use Rattle.cards.specs.Turns.{IsTurn}
use Rattle.cards.proofs.turn.find_turn.Given as goal

abbrev pub invariant-loop-turn : goal.invariant-loop-turn
invariant-loop-turn l = record {
  turn : IsTurn l.model l.turn;
  not_past : l.turn.before ≤ l.person;
  node_in : l.turn.node < length l.model.nodes;
}

abbrev pub decreases-loop-turn : goal.decreases-loop-turn
decreases-loop-turn l = (length l.model.nodes - l.turn.node) * (l.model.horizon + 1) + (l.model.horizon - l.turn.moment)
