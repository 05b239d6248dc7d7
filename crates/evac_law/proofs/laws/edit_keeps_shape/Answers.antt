use Rattle.evac_law.proofs.ShapeLemmas.{applied_keeps_shape}
use Rattle.evac_law.proofs.laws.edit_keeps_shape.Goals as goal

pub returns : goal.returns
returns c = applied_keeps_shape
