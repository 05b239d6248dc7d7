use Rattle.std.proofs.Common.{arith}
use Rattle.std.proofs.Math.Seq.{map-set_same}
use Rattle.std.proofs.lemmas.List.{length-set}
use Rattle.building_table.proofs.IndexLemmas.{ends-of}
use Rattle.building_table.proofs.builder.Builder.add_window.Goals as goal

pub invariant_of-self : goal.invariant_of-self
invariant_of-self c = grind (arith, map-set_same, ends-of, length-set)
