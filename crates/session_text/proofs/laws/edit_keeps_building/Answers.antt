use Rattle.session_text.proofs.Serving.{edit_keeps_building}
use Rattle.session_text.proofs.laws.edit_keeps_building.Goals as goal

pub returns : goal.returns
returns c = edit_keeps_building
