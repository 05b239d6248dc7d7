use Rattle.replan.proofs.Carried.{undo_keeps}
use Rattle.replan.proofs.replan.Replan.undo.Goals as goal

pub invariant_of-self : goal.invariant_of-self
invariant_of-self g c =
    undo_keeps c.self.inside.session c.undo.new.self c.undo.result c.undo.ensures.ends.0 c.undo.ensures.ends.2 c.self.invariant
