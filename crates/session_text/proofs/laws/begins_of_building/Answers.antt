use Rattle.session_text.proofs.Serving.{begins_of_building}
use Rattle.session_text.proofs.laws.begins_of_building.Goals as goal

pub returns : goal.returns
returns c = begins_of_building
