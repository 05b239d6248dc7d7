use Rattle.std.proofs.Common.{arith}
use Rattle.std.proofs.lemmas.Grind.{common_steps}
use Rattle.model_text.proofs.EntrantLemmas.{sum-with_entrant}
use Rattle.building_table.proofs.builder.Builder.push_entrant.Goals as goal

pub invariant_of-self-2 : goal.invariant_of-self-2
invariant_of-self-2 c = grind (arith, common_steps, sum-with_entrant)
