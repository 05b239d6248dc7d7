use Rattle.session_text.proofs.Serving.{undo_keeps_building}
use Rattle.session_text.proofs.laws.undo_keeps_building.Goals as goal

pub returns : goal.returns
returns c = undo_keeps_building
