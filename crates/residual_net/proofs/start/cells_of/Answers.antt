use Rattle.std.proofs.Common.{arith}
use Rattle.std.proofs.lemmas.List.{length-map}
use Rattle.residual_net.proofs.Begin.{cells_made, joined}
use Rattle.residual_net.proofs.start.cells_of.Goals as goal

pub add_rows-requires : goal.add_rows-requires
add_rows-requires c = grind (arith, length-map, joined)

pub returns : goal.returns
returns c = grind (arith, cells_made)
