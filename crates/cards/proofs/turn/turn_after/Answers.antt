use Rattle.std.proofs.Common.{arith}
use Rattle.evac_law.proofs.ValidLemmas.{horizon_small}
use Rattle.cards.proofs.Entrants.{dealt-later, dealt-next}
use Rattle.cards.proofs.Turning.{dealt_small, node_small}
use Rattle.cards.proofs.turn.turn_after.Goals as goal

pub overflow_add-before : goal.overflow_add-before
overflow_add-before c = grind (arith, dealt_small)

pub overflow_add-result : goal.overflow_add-result
overflow_add-result c = omega (arith, c.if-turn-model.true, horizon_small c.args.model.now c.requires.valid)

pub overflow_add-result-else-turn-model : goal.overflow_add-result-else-turn-model
overflow_add-result-else-turn-model c = omega (arith, node_small c.args.model.now c.args.turn.node c.requires.valid c.requires.node_in)

pub returns-then-turn-model-clause-turn : goal.returns-then-turn-model-clause-turn
returns-then-turn-model-clause-turn c = grind (arith, dealt-later)

pub returns-else-turn-model-clause-turn : goal.returns-else-turn-model-clause-turn
returns-else-turn-model-clause-turn c = grind (arith, dealt-later, dealt-next)
