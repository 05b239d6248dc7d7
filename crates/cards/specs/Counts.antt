-- The counts by which people are followed, and what they say of a plan.
use Rattle.evac_law.specs.Plans.{came, left}
use Rattle.cards.specs.declared.counts.Counts.{Counts}
use Rattle.cards.specs.Kept.{HasNumbers, IsByNode}
use Rattle.cards.specs.Laws.{IsEvacuation}

-- the tables are by the nodes of the plan's model
pub record IsSized (w : Counts) : Type 0 where
  pub came : IsByNode w.plan.model w.came
  pub left : IsByNode w.plan.model w.left

-- the plan takes everybody out, and the tables have who came to each node and who left it by it
pub record AreTrueCounts (w : Counts) : Type 0 where
  pub sized : IsSized w
  pub takes : IsEvacuation w.plan.model w.plan.moves
  pub comes : HasNumbers w.plan.model w.came (came w.plan.model w.plan.moves)
  pub leaves : HasNumbers w.plan.model w.left (left w.plan.model w.plan.moves)
